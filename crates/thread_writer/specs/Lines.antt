-- What the functions inside the crate say of a line on its way.
use Rattle.std.specs.Prelude.{◌≡◌, ℕ, ◌+◌, ◌≤◌, List, ◌++◌, length}
use Rattle.ix_base.specs.Births.{block_rows}
use Rattle.ix_base.specs.Documents.{Document}
use Rattle.delete_queue.specs.declared.queue.DeleteQueue.{DeleteQueue}
use Rattle.delete_queue.specs.Seats.{IsSeatOf, Grows, Links, own_of}
use Rattle.delete_slice.specs.Slices.{IsSliceOf}
use Rattle.ram_postings.specs.Buffer.{born_rows}
use Rattle.thread_writer.specs.declared.told.Told.{Told}
use Rattle.thread_writer.specs.declared.writer.ThreadWriter.{ThreadWriter}
use Rattle.thread_writer.specs.Answers.{MatchTold}

-- An entry of these words was linked with the number n, and these documents came into the buffer as
-- those of the operation of that number.
pub record Puts (q : DeleteQueue) (words : List ℕ) (docs : List Document) (n : ℕ) (old new : ThreadWriter)
    : Type 0 where
  pub seat : IsSeatOf q new.seat
  pub grows : Grows old.seat new.seat
  pub links : Links old.seat new.seat words n
  pub born : born_rows new.rows ≡ born_rows old.rows ++ block_rows n docs
  pub count : length new.rows ≡ length old.rows + length docs
  pub slice : new.slice ≡ old.slice
  pub size : new.size ≡ old.size

-- Nothing was linked and no row came into the buffer; at most so many documents were staged.
pub record Keeps (q : DeleteQueue) (most : ℕ) (old new : ThreadWriter) : Type 0 where
  pub seat : IsSeatOf q new.seat
  pub grows : Grows old.seat new.seat
  pub own : own_of new.seat ≡ own_of old.seat
  pub born : born_rows new.rows ≡ born_rows old.rows
  pub count : length new.rows ≤ length old.rows + most
  pub slice : new.slice ≡ old.slice
  pub size : new.size ≡ old.size

-- An entry of these words was linked with the number that was told, and with it came these documents;
-- or nothing was linked.
abbrev pub Does : DeleteQueue → List ℕ → List Document → Told → ThreadWriter → ThreadWriter → Type 0
Does q words docs told old new =
    MatchTold told (λ n. Puts q words docs n old new) (Keeps q (length docs) old new)

-- The slice was moved on, and its entries were read: the seat has seen and knows more. Nothing was
-- linked, and the buffer is the same.
pub record Reads (q : DeleteQueue) (old new : ThreadWriter) : Type 0 where
  pub seat : IsSeatOf q new.seat
  pub grows : Grows old.seat new.seat
  pub own : own_of new.seat ≡ own_of old.seat
  pub slice : IsSliceOf new.seat new.slice
  pub from : new.slice.from ≡ old.slice.from
  pub rows : new.rows ≡ old.rows
  pub size : new.size ≡ old.size
