-- What a thread's writer has done, and what its pieces are.
use Rattle.std.specs.Prelude.{◌≡◌, ℕ, ◌+◌, ◌<◌, ◌≤◌, ◌==◌, Bool, not}
use Rattle.std.specs.Prelude.{List, [], ◌∷◌, ◌++◌, length, map, slice_index}
use Rattle.std.specs.List.{filter, flat_map, AllByRecursion}
use Rattle.ix_base.specs.Births.{last_birth}
use Rattle.ix_base.specs.Documents.{Document}
use Rattle.ix_base.specs.Entry.{entry_of}
use Rattle.ix_base.specs.Inversion.{IsInversion}
use Rattle.ix_base.specs.Words.{head_kind, Spells}
use Rattle.ix_base.specs.declared.document.Row.{Row}
use Rattle.ix_base.specs.declared.document.Operation.{Operation}
use Rattle.ix_base.specs.declared.document.Operation.TheVariants.{Add, AddBlock, Update, UpdateBlock}
use Rattle.ix_base.specs.declared.document.Operation.TheVariants.{DeleteTerm, DeleteQuery, SetNumber, Commit}
use Rattle.queue_rule.specs.declared.view.Own.{Own}
use Rattle.delete_queue.specs.declared.queue.DeleteQueue.{DeleteQueue}
use Rattle.delete_queue.specs.declared.seat.Seat.{Seat}
use Rattle.delete_queue.specs.Seats.{IsSeatOf, Knows, base_of, number_of, own_of, seen_of, last_of}
use Rattle.delete_slice.specs.Entries.{numbers_behind}
use Rattle.delete_slice.specs.Slices.{IsSliceOf}
use Rattle.delete_slice.specs.Taken.{AreWithin, TakesPart}
use Rattle.row_fates.specs.Fate.{Numbered, rows_added, BornBy, BirthsRise}
use Rattle.frozen_packet.specs.declared.updates.Updates.{Updates}
use Rattle.frozen_packet.specs.Updates.{as_operations}
use Rattle.ram_postings.specs.Buffer.{born_rows}
use Rattle.thread_writer.specs.declared.piece.Piece.{Piece}
use Rattle.thread_writer.specs.declared.piece.HandedBack.{HandedBack}
use Rattle.thread_writer.specs.declared.writer.ThreadWriter.{ThreadWriter}

-- ---- what was told

-- an entry that closes a queue without a number
abbrev pub is_turn : List ℕ → Bool
is_turn words = head_kind (slice_index words 0) == 7

-- the own entries that have a number
abbrev pub numbered_own : List Own → List Own
numbered_own own = filter (λ (o : Own). not (is_turn o.words)) own

-- The operations are those of the own entries, one by one, with their numbers.
abbrev pub Tells : ℕ → List Numbered → List Own → Type 0
Tells base [] [] = Unit {0}
Tells base [] (o ∷ own) = ⊥
Tells base (t ∷ told) [] = ⊥
Tells base (t ∷ told) (o ∷ own) = (t.0 ≡ base + o.place) × Spells o.words (entry_of t.1) × Tells base told own

-- ---- pieces

-- the rows of pieces, one piece after another
abbrev pub piece_rows : List Piece → List Row
piece_rows pieces = flat_map (λ (p : Piece). p.frozen.rows.items) pieces

-- Each piece, in order, has the rows that the next operations add, and the rows that are left are those that the others
-- add: no operation is split.
abbrev pub Gave : List Numbered → List Piece → List Row → Type 0
Gave told [] rest = rest ≡ rows_added told
Gave told (p ∷ gave) rest =
    (ops : List Numbered) × (more : List Numbered) × (told ≡ ops ++ more)
    × (p.frozen.rows.items ≡ rows_added ops) × Gave more gave rest

-- What a piece says of itself, in words that its writer's seat knows. Its updates took the entries
-- after the place `from`, up to the place `to`, of a queue; each of its rows was born after `from`;
-- the cut is the number of the last numbered entry up to `to`.
pub record IsPiece (q : DeleteQueue) (s : Seat) (p : Piece) : Type 0 where
  pub worker : p.worker ≡ number_of s
  pub inversion : IsInversion (map (λ (row : Row). row.doc) p.frozen.rows.items) p.frozen.postings
  pub few : length p.frozen.rows.items ≤ 65599
  pub from : ℕ
  pub to : ℕ
  pub begun : Updates
  pub nothing : as_operations begun ≡ []
  pub took : TakesPart (Knows s) (base_of q) from to begun p.updates
  pub births : BirthsRise (last_birth (base_of q + from)) p.frozen.rows.items
  pub born : BornBy p.cut p.frozen.rows.items
  pub numbers : AreWithin (base_of q + from) p.cut (numbers_behind (base_of q) from took.entries)
  pub reach : p.cut ≤ base_of q + to
  pub not_before : base_of q ≤ p.cut
  pub within : p.cut ≤ last_of s

-- ---- writers

-- A writer, or what was handed back of it, can go on: the rows in its buffer were born after its
-- slice began, and by the last numbered entry that its seat has seen.
pub record IsReady (q : DeleteQueue) (h : HandedBack) : Type 0 where
  pub seat : IsSeatOf q h.seat
  pub slice : IsSliceOf h.seat h.slice
  pub births : BirthsRise (last_birth (base_of q + h.slice.from.at)) (born_rows h.rest)
  pub born : BornBy (last_of h.seat) (born_rows h.rest)

-- What a writer did so far: it was told these operations with their numbers, gave off these pieces,
-- and has the other rows in its buffer.
pub record Did (q : DeleteQueue) (h : HandedBack) (told : List Numbered) (gave : List Piece) : Type 0 where
  pub tells : Tells (base_of q) told (numbered_own (own_of h.seat))
  pub rows : Gave told gave (born_rows h.rest)
  pub pieces : AllByRecursion (IsPiece q h.seat) gave

-- the parts of a writer
abbrev pub parts_of : ThreadWriter → HandedBack
parts_of w = record { seat = w.seat; rest = w.rows; slice = w.slice }

-- The writer's buffer is full once it holds `size` documents, void ones among them. One block may come on top of one
-- document less.
pub record IsWriter (q : DeleteQueue) (w : ThreadWriter) : Type 0 where
  pub ready : IsReady q (parts_of w)
  pub some : 1 ≤ w.size
  pub most : w.size ≤ 65536
  pub room : length w.rows ≤ w.size + 63

-- the documents that an operation adds, in order
abbrev pub added_documents : Operation → List Document
added_documents (Add doc) = doc ∷ []
added_documents (AddBlock docs) = docs
added_documents (Update term doc) = doc ∷ []
added_documents (UpdateBlock term docs) = docs
added_documents (DeleteTerm term) = []
added_documents (DeleteQuery query) = []
added_documents (SetNumber term name value) = []
added_documents (Commit pairs) = []

-- how many documents an operation adds
abbrev pub documents_of : Operation → ℕ
documents_of op = length (added_documents op)

-- The writer was told the number n for an operation.
pub record Numbers (q : DeleteQueue) (op : Operation) (n : ℕ) (old new : ThreadWriter) : Type 0 where
  pub history : (told : List Numbered) (gave : List Piece) → Did q (parts_of old) told gave
      → Did q (parts_of new) (told ++ (n, op) ∷ []) gave
  pub last : last_of new.seat ≡ n
  pub above : base_of q < n
  pub some : 0 < length (own_of new.seat)
  pub rows : length new.rows ≡ length old.rows + documents_of op

-- Nothing was told: own entries and born rows are as before. The seat may have seen more, and
-- documents may have been staged that never get a birth.
pub record Stays (q : DeleteQueue) (old new : ThreadWriter) : Type 0 where
  pub own : own_of new.seat ≡ own_of old.seat
  pub rows : born_rows new.rows ≡ born_rows old.rows
  pub history : (told : List Numbered) (gave : List Piece) → Did q (parts_of old) told gave
      → Did q (parts_of new) told gave

-- What was told and given off is as before: a turn that was linked has no number.
abbrev pub Turns : DeleteQueue → ThreadWriter → ThreadWriter → Type 0
Turns q old new = (told : List Numbered) (gave : List Piece) → Did q (parts_of old) told gave
    → Did q (parts_of new) told gave

-- The writer gave a piece off: it has the rows of the buffer, which is empty now, and the updates up
-- to the last entry that the seat has seen; the writer's slice begins behind it.
pub record Gives (q : DeleteQueue) (p : Piece) (old new : ThreadWriter) : Type 0 where
  pub history : (told : List Numbered) (gave : List Piece) → Did q (parts_of old) told gave
      → Did q (parts_of new) told (gave ++ p ∷ [])
  pub piece : IsPiece q new.seat p
  pub rows : p.frozen.rows.items ≡ born_rows old.rows
  pub cut : p.cut ≡ last_of new.seat
  pub empty : new.rows ≡ []
  pub slice : new.slice.from.at ≡ seen_of new.seat
