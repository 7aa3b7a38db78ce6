-- What a clause says of what `do_line` returns.
use Rattle.std.specs.Prelude.{◌≡◌, ℕ, ◌+◌, ◌<◌, List, Option, Some, None, length}
use Rattle.ix_base.specs.declared.refusal.Refusal.{Refusal}
use Rattle.ix_base.specs.declared.refusal.Refusal.TheVariants.{Term, Query}
use Rattle.ix_base.specs.declared.refusal.Refused.{Refused}
use Rattle.ix_base.specs.declared.refusal.Refused.TheVariants as r
use Rattle.thread_writer.specs.declared.told.Told.{Told}
use Rattle.thread_writer.specs.declared.told.Told.TheVariants.{Numbered, RefusedTerm, RefusedQuery}
use Rattle.thread_writer.specs.declared.told.Told.TheVariants.{Closed, Full, NoMemory}
use Rattle.delete_queue.specs.Seats.{own_of, left_of}
use Rattle.thread_writer.specs.declared.writer.ThreadWriter.{ThreadWriter}

-- P of the number that was told, and otherwise Q
abbrev pub MatchTold : Told → (ℕ → Type 0) → Type 0 → Type 0
MatchTold (Numbered n) P Q = P n
MatchTold (RefusedTerm size) P Q = Q
MatchTold (RefusedQuery size) P Q = Q
MatchTold Closed P Q = Q
MatchTold (Full need left) P Q = Q
MatchTold NoMemory P Q = Q

abbrev pub IfNumbered : Told → (ℕ → Type 0) → Type 0
IfNumbered told P = MatchTold told P (Unit {0})

abbrev pub IfNotNumbered : Told → Type 0 → Type 0
IfNotNumbered told Q = MatchTold told (λ n. Unit {0}) Q

abbrev pub IfClosed : Told → Type 0 → Type 0
IfClosed (Numbered n) P = Unit {0}
IfClosed (RefusedTerm size) P = Unit {0}
IfClosed (RefusedQuery size) P = Unit {0}
IfClosed Closed P = P
IfClosed (Full need left) P = Unit {0}
IfClosed NoMemory P = Unit {0}

abbrev pub IfFull : Told → (ℕ → ℕ → Type 0) → Type 0
IfFull (Numbered n) P = Unit {0}
IfFull (RefusedTerm size) P = Unit {0}
IfFull (RefusedQuery size) P = Unit {0}
IfFull Closed P = Unit {0}
IfFull (Full need left) P = P need left
IfFull NoMemory P = Unit {0}

-- The answer is that refusal, or without one none of these; out of memory alone says nothing of it.
abbrev pub RefusedExactly : Told → Option Refusal → Type 0
RefusedExactly (Numbered n) refusal = refusal ≡ None
RefusedExactly (RefusedTerm size) refusal = refusal ≡ Some (Term size)
RefusedExactly (RefusedQuery size) refusal = refusal ≡ Some (Query size)
RefusedExactly Closed refusal = refusal ≡ None
RefusedExactly (Full need left) refusal = refusal ≡ None
RefusedExactly NoMemory refusal = Unit {0}

-- what is told of a refusal, or for want of memory
abbrev pub told_for : Refused → Told
told_for (r.For (Term size)) = RefusedTerm size
told_for (r.For (Query size)) = RefusedQuery size
told_for r.NoMemory = NoMemory

-- The seat has no room for an entry of these words: more are needed than are left to it. Then it has
-- linked one before, for an empty seat has room for any entry.
pub record FindsFull (words : List ℕ) (old new : ThreadWriter) (need left : ℕ) : Type 0 where
  pub need_is : need ≡ length words + 1
  pub left_is : left ≡ left_of old.seat
  pub short : left < need
  pub some : 0 < length (own_of new.seat)

abbrev pub FullFor : List ℕ → Told → ThreadWriter → ThreadWriter → Type 0
FullFor words told old new = IfFull told (λ need left. FindsFull words old new need left)
