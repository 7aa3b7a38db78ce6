-- Postings of sources that are merged up to one of their terms.
use Rattle.std.specs.Prelude.{◌≡◌, ℕ, List, ◌∷◌, ◌++◌, ◌||◌, Option, Some, None, length, take}
use Rattle.std.specs.List.{AllByRecursion}
use Rattle.ix_base.specs.Inversion.{IsPostings, posted}
use Rattle.ix_base.specs.declared.document.Term.{Term}
use Rattle.ix_base.specs.declared.postings.TermPostings.{TermPostings}
use Rattle.merge_postings.specs.Renumbering.{Moving, any_moved}
use Rattle.merge_postings.specs.Walk.{CanWait, IsBelow, StartAbove, Waiting, any_waiting, waiting}
use Rattle.merge_postings.specs.declared.partly.PartlyMerged.{PartlyMerged}

-- the term isn't above the one that was reached; none is where none was reached
abbrev pub IsReached : Option Term → Term → Type 0
IsReached None t = ⊥
IsReached (Some u) t = ¬ IsBelow u t

-- the term is above the one that was reached
abbrev pub IsBeyond : Option Term → Term → Type 0
IsBeyond None t = Unit {0}
IsBeyond (Some u) t = IsBelow u t

-- The terms up to the one that was reached are merged: each stands exactly where the sources have
-- it, at the rows of their numbers. No term beyond it is there.
pub record IsMergedUpto (sources : List Moving) (m : PartlyMerged) : Type 0 where
  pub ordered : IsPostings m.terms
  pub within : AllByRecursion (λ (e : TermPostings). IsReached m.upto e.term) m.terms
  pub exact : (t : Term) (r x : ℕ) → IsReached m.upto t
      → posted m.terms t.field t.bytes r x ≡ any_moved sources t.field t.bytes r x

-- ---- how the walk goes on

-- what a source has behind the entries whose terms were reached
pub record IsResumed (upto : Option Term) (s : Moving) (o : Option Waiting) : Type 0 where
  pub before : List TermPostings
  pub rest : List TermPostings
  pub all : s.terms ≡ before ++ rest
  pub reached : AllByRecursion (λ (e : TermPostings). IsReached upto e.term) before
  pub beyond : AllByRecursion (λ (e : TermPostings). IsBeyond upto e.term) rest
  pub is : o ≡ waiting rest s.numbers

-- no entry of the source was reached
abbrev pub IsAllBeyond : Option Term → Waiting → Type 0
IsAllBeyond upto w = AllByRecursion (λ (e : TermPostings). IsBeyond upto e.term) (w.first ∷ w.rest)

-- The sources wait behind what was reached.
pub record AreResumed (upto : Option Term) (sources : List Moving) (queue : List Waiting) : Type 0 where
  pub can : AllByRecursion CanWait queue
  pub beyond : AllByRecursion (IsAllBeyond upto) queue
  pub exact : (t : Term) (r x : ℕ) → IsBeyond upto t
      → any_waiting queue t.field t.bytes r x ≡ any_moved sources t.field t.bytes r x

-- Entries were made of the sources' terms, all below those that are left.
pub record Walked (sources : List Moving) (queue : List Waiting) (made : List TermPostings) : Type 0 where
  pub exact : (field bytes : List ℕ) (r x : ℕ)
      → (posted made field bytes r x || any_waiting queue field bytes r x)
      ≡ any_moved sources field bytes r x
  pub can : AllByRecursion CanWait queue
  pub ordered : IsPostings made
  pub below : AllByRecursion (λ (e : TermPostings). StartAbove e.term queue) made

-- They were made up to the term u.
pub record WalkedUpto (sources : List Moving) (u : Term) (queue : List Waiting) (made : List TermPostings) : Type 0 where
  pub walked : Walked sources queue made
  pub within : AllByRecursion (λ (e : TermPostings). ¬ IsBelow u e.term) made
  pub above : StartAbove u queue

-- entries were put behind those that were there
abbrev pub IsFront : List TermPostings → List TermPostings → Type 0
IsFront old new = take (length old) new ≡ old
