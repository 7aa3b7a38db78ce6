-- What senders and the receiver know, and what steps make of it.
use Rattle.std.specs.Prelude.{◌≡◌, ℕ, suc, zero, ◌+◌, ◌<◌, ◌==◌, Bool, true, false, if◌then◌else◌, List, [], ◌∷◌, ◌++◌}
use Rattle.std.specs.List.{AllByRecursion}
use Rattle.thread_writer.specs.declared.piece.Piece.{Piece}
use Rattle.piece_queue.specs.declared.view.Hand.{Hand}
use Rattle.piece_queue.specs.declared.view.Sent.{Sent}

-- ---- pieces

-- the pieces of this worker, in order
abbrev pub pieces_of : ℕ → List Piece → List Piece
pieces_of w [] = []
pieces_of w (p ∷ ps) = if p.worker == w then p ∷ pieces_of w ps else pieces_of w ps

-- the pieces of each of so many workers, from this one on
abbrev pub parcels_of : ℕ → ℕ → List Piece → List (List Piece)
parcels_of i zero ps = []
parcels_of i (suc n) ps = pieces_of i ps ∷ parcels_of (suc i) n ps

-- each piece is of one of the first so many workers
abbrev pub AreBelow : ℕ → List Piece → Type 0
AreBelow n ps = AllByRecursion (λ (p : Piece). p.worker < n) ps

-- ---- what is known

-- the keeper, which has made so many senders, taken these pieces, and taken these senders back
abbrev pub keeper : ℕ → List Piece → List Sent → Hand
keeper made taken ended =
    record { puts = false; worker = 0; put = []; takes = true; made = made; taken = taken; ended = ended }

-- a worker, which has sent these pieces
abbrev pub worker : ℕ → List Piece → Hand
worker w put = record { puts = true; worker = w; put = put; takes = false; made = 0; taken = []; ended = [] }

-- who knows nothing
abbrev pub idle : Hand
idle = record { puts = false; worker = 0; put = []; takes = false; made = 0; taken = []; ended = [] }

-- ---- steps

-- a sender more was made
abbrev pub one_more : Hand → Hand
one_more v = record v { made = v.made + 1 }

-- what a worker sent
abbrev pub one_sent : ℕ → List Piece → Sent
one_sent w put = record { worker = w; put = put }

-- a sender was taken back
abbrev pub took_back : Hand → Hand → Hand
took_back v w = record v { ended = v.ended ++ one_sent w.worker w.put ∷ [] }

-- a piece was sent
abbrev pub sends : Hand → Piece → Hand
sends v p = record v { put = v.put ++ p ∷ [] }

-- a piece was taken
abbrev pub takes_on : Hand → Piece → Hand
takes_on v p = record v { taken = v.taken ++ p ∷ [] }
