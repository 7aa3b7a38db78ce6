-- The workers of a round, on their way.
use Rattle.std.specs.Prelude.{◌≡◌, ℕ, ◌+◌, ◌≤◌, List, [], ◌∷◌, vec_capacity}
use Rattle.std.specs.Global.{Vec}
use Rattle.delete_queue.specs.declared.queue.DeleteQueue.{DeleteQueue}
use Rattle.piece_queue.specs.declared.queue.PieceQueue.{PieceQueue}
use Rattle.piece_queue.specs.declared.sender.Sender.{Sender}
use Rattle.piece_queue.specs.declared.view.Sent.{Sent}
use Rattle.piece_queue.specs.Passes.{IsSender, number_of, sent_by}
use Rattle.piece_queue.specs.Views.{one_sent}
use Rattle.thread_writer.specs.declared.piece.Piece.{Piece}
use Rattle.thread_writer.specs.declared.writer.ThreadWriter.{ThreadWriter}
use Rattle.round_work.specs.declared.starting.Started.{Started}
use Rattle.round_work.specs.declared.starting.Started.TheVariants.{Thread, Here}
use Rattle.worker_tasks.specs.declared.share.Share.{Share}
use Rattle.round_work.specs.declared.worked.Stopped.{Stopped}
use Rattle.round_work.specs.declared.worked.Worked.{Worked}
use Rattle.round_work.specs.Outboxes.{IsFresh}
use Rattle.round_work.specs.Working.{Works}

-- a worker that stopped, with these pieces
abbrev pub worked_of : Stopped → List Piece → Worked
worked_of x pieces = record { writer = x.writer; share = x.share; pieces = pieces; stop = x.stop }

-- a worker that stopped, before its pieces are there
abbrev pub without : Stopped → Worked
without x = worked_of x []

-- what its sender sent
abbrev pub sent_of : Stopped → Sent
sent_of x = one_sent (number_of x.sender) (sent_by x.sender)

-- The worker with this number did its work with this writer and this share, and its sender sent its pieces.
pub record Stops (q : DeleteQueue) (pieces : PieceQueue) (number : ℕ) (writer : ThreadWriter) (share : Share)
    (x : Stopped) : Type 0 where
  pub sender : IsSender pieces x.sender
  pub number_is : number_of x.sender ≡ number
  pub works : Works q writer share (worked_of x (sent_by x.sender))

-- The worker with this number was started with these, or has done its work with them.
abbrev pub Starts : DeleteQueue → PieceQueue → ℕ → ThreadWriter → Share → Started → Type 0
Starts q pieces i writer share (Thread h) = (h.promise.queue.value ≡ q) × (h.promise.pieces.value ≡ pieces)
    × (h.promise.writer.value ≡ writer) × (h.promise.share.value ≡ share) × (number_of h.promise.sender.value ≡ i)
Starts q pieces i writer share (Here x) = Stops q pieces i writer share x

-- each worker from this one on was started, in their order
abbrev pub AreStarted : DeleteQueue → PieceQueue → ℕ → List ThreadWriter → List Share → List Started → Type 0
AreStarted q pieces i [] [] [] = Unit {0}
AreStarted q pieces i (w ∷ ws) (s ∷ ss) (t ∷ ts) = Starts q pieces i w s t × AreStarted q pieces (i + 1) ws ss ts
AreStarted q pieces i ws ss ts = ⊥

-- What comes back of a worker that was started.
abbrev pub ComesBack : Started → Stopped → Type 0
ComesBack started x = (q : DeleteQueue) (pieces : PieceQueue) (i : ℕ) (writer : ThreadWriter) (share : Share)
    → Starts q pieces i writer share started → Stops q pieces i writer share x

-- each worker from this one on stopped, in their order
abbrev pub AreStopped : DeleteQueue → PieceQueue → ℕ → List ThreadWriter → List Share → List Stopped → Type 0
AreStopped q pieces i [] [] [] = Unit {0}
AreStopped q pieces i (w ∷ ws) (s ∷ ss) (x ∷ xs) = Stops q pieces i w s x × AreStopped q pieces (i + 1) ws ss xs
AreStopped q pieces i ws ss xs = ⊥

-- the senders of the workers from this one on, which have sent nothing
abbrev pub AreFresh : PieceQueue → ℕ → List Sender → Type 0
AreFresh pieces i [] = Unit {0}
AreFresh pieces i (x ∷ xs) = IsFresh pieces i x × AreFresh pieces (i + 1) xs

-- each has a sender of this queue
abbrev pub AreSenders : PieceQueue → List Stopped → Type 0
AreSenders pieces [] = Unit {0}
AreSenders pieces (x ∷ xs) = IsSender pieces x.sender × AreSenders pieces xs

-- the workers, each with the pieces at its place
abbrev pub with_pieces : List Worked → List (List Piece) → List Worked
with_pieces [] ps = []
with_pieces (x ∷ xs) [] = []
with_pieces (x ∷ xs) (p ∷ ps) = record x { pieces = p } ∷ with_pieces xs ps

-- Nothing is in it, and it has room for so many.
abbrev pub IsRoom : {A : Type 0} → ℕ → Vec A → Type 0
IsRoom n v = (v.items ≡ []) × (n ≤ vec_capacity v)
