-- The rule of the queue: of each worker, what was taken and then what the queue holds is what it sent.
use Rattle.std.specs.Prelude.{◌≡◌, ℕ, ◌<◌, true, List, ◌++◌, []}
use Rattle.std.specs.List.{AllByRecursion}
use mathlib.Core.Option.{some}
use lib.ListN.{get_elem?}
use Rattle.thread_writer.specs.declared.piece.Piece.{Piece}
use Rattle.piece_queue.specs.declared.view.Hand.{Hand}
use Rattle.piece_queue.specs.declared.view.Sent.{Sent}
use Rattle.piece_queue.specs.Views.{AreBelow, pieces_of}

-- Of each worker that has ended, what was taken and then what the queue holds is what it sent; and
-- all that was taken is of workers whose senders were made.
abbrev pub Came : Hand → List Piece → Type 0
Came v items =
    AllByRecursion (λ (d : Sent). pieces_of d.worker (v.taken ++ items) ≡ d.put) v.ended
    × AreBelow v.made v.taken

module _ (made reader : ℕ) (holder : ℕ → ℕ) (sent : ℕ → List Piece) (got : List Piece) where
  -- What the pass with this number knows is so.
  pub record Fits (id : ℕ) (v : Hand) : Type 0 where
    pub put : v.puts ≡ true → (holder v.worker ≡ id) × (v.worker < made) × (v.put ≡ sent v.worker)
    pub taken : v.takes ≡ true → (reader ≡ id) × (v.taken ≡ got) × (v.made ≡ made)
    pub ended : AllByRecursion (λ (d : Sent). (holder d.worker ≡ id) × (d.worker < made)
        × (d.put ≡ sent d.worker)) v.ended

-- There is: how many senders were made, which pass takes, which pass has a worker's list, what each
-- worker sent, and what was taken.
pub record Kept (items : List Piece) (views : List Hand) : Type 0 where
  pub made : ℕ
  pub reader : ℕ
  pub holder : ℕ → ℕ
  pub sent : ℕ → List Piece
  pub got : List Piece
  pub whole : (w : ℕ) → pieces_of w (got ++ items) ≡ sent w
  pub later : (w : ℕ) → (w < made → ⊥) → sent w ≡ []
  pub below : AreBelow made (got ++ items)
  pub fits : (id : ℕ) (v : Hand) → get_elem? views id ≡ some v → Fits made reader holder sent got id v
