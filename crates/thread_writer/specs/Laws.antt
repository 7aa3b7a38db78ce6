-- What the layers above use of pieces.
use Rattle.std.specs.Prelude.{◌≡◌, ℕ, ◌+◌, ◌≤◌, Bool, true, false, List, [], ◌∷◌, ◌++◌, if◌then◌else◌}
use Rattle.ix_base.specs.declared.document.Row.{Row}
use Rattle.delete_queue.specs.declared.queue.DeleteQueue.{DeleteQueue}
use Rattle.delete_queue.specs.declared.seat.Seat.{Seat}
use Rattle.delete_queue.specs.Seats.{Grows}
use Rattle.thread_writer.specs.declared.piece.Piece.{Piece}
use Rattle.row_fates.specs.Fate.{Numbered, rows_added, adding}
use Rattle.thread_writer.specs.Writing.{piece_rows, IsPiece, Gave}

-- A piece of a seat's writer stays one, however much more the seat links and sees.
abbrev pub PiecesStay : Type 0
PiecesStay = (q : DeleteQueue) (s t : Seat) (p : Piece) → Grows s t → IsPiece q s p → IsPiece q t p

-- The rows of the pieces, and those that are left, are the rows that the operations add, in order, each once.
abbrev pub PiecesHaveAll : Type 0
PiecesHaveAll = (told : List Numbered) (gave : List Piece) (rest : List Row) → Gave told gave rest
    → piece_rows gave ++ rest ≡ rows_added told

abbrev pub has_row : List Row → Bool
has_row [] = false
has_row (row ∷ rows) = true

-- how many pieces have a row
abbrev pub with_row : List Piece → ℕ
with_row [] = 0
with_row (p ∷ pieces) = (if has_row p.frozen.rows.items then 1 else 0) + with_row pieces

-- At most as many pieces have a row as operations add documents; those that are left count as one more piece.
abbrev pub PiecesAreFew : Type 0
PiecesAreFew = (told : List Numbered) (gave : List Piece) (rest : List Row) → Gave told gave rest
    → with_row gave + (if has_row rest then 1 else 0) ≤ adding told
