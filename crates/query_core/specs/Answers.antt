-- What an inverted index answers.
use Rattle.std.specs.Prelude.{◌≡◌, ℕ, ℤ, ◌+◌, ◌<◌, List, [], ◌∷◌, Bool, true, ◌&&◌, Option, AllPairs}
use Rattle.std.specs.List.{list_any, list_all, slice_get}
use Rattle.std.specs.Option.{option_and_then}
use Rattle.ix_base.specs.Terms.{Place, terms}
use Rattle.ix_base.specs.Matches.{holds_term, stands_at, value_of}
use Rattle.ix_base.specs.Inversion.{at_row, has_number, stands_in_row, rows_where}
use Rattle.ix_base.specs.Documents.{Document}
use Rattle.ix_base.specs.declared.document.Term.{Term}

-- numbers that rise
abbrev pub IsRising : List ℕ → Type 0
IsRising = AllPairs (λ a b. a < b)

-- the rows whose documents pass the test, of whichever documents these are
abbrev pub AreRowsWhere : (List Document → Type 0) → (Document → Bool) → List ℕ → Type 0
AreRowsWhere inverts test rows = (docs : List Document) → inverts docs → rows ≡ rows_where test docs

-- the positions at which the row's document has the term, rising
pub record ArePositions (docs : List Document) (term : Term) (row : ℕ) (positions : List ℕ) : Type 0 where
  pub rise : IsRising positions
  pub exact : (at : ℕ) → has_number positions at ≡ stands_in_row docs term.field term.bytes row at

-- the number by this name that the row's document has; none where there is no such row
abbrev pub number_at : List Document → ℕ → List ℕ → Option ℤ
number_at docs row name = option_and_then (λ (doc : Document). value_of name doc.num) (slice_get docs row)

-- Rows that rise, among which all are whose documents pass the test, of whichever documents these are.
abbrev pub AreCandidates : (List Document → Type 0) → (Document → Bool) → List ℕ → Type 0
AreCandidates inverts test rows = IsRising rows
    × ((docs : List Document) → inverts docs → (r : ℕ) → at_row test docs r ≡ true → has_number rows r ≡ true)

-- a word as a term of its field
abbrev pub term_of : List ℕ → List ℕ → Term
term_of field word = record { field = field; bytes = word }

-- the document has each of the terms
abbrev pub holds_all : List Term → Document → Bool
holds_all wanted doc = list_all (λ term. holds_term term.field term.bytes doc) wanted

-- the terms stand at this position and those after it
abbrev pub terms_stand_at : List Place → List Term → ℕ → Bool
terms_stand_at places [] at = true
terms_stand_at places (term ∷ more) at =
    stands_at places term.field term.bytes at && terms_stand_at places more (at + 1)

-- the terms stand somewhere in the document, one after another
abbrev pub terms_stand : List Term → Document → Bool
terms_stand wanted doc = list_any (λ place. terms_stand_at (terms doc) wanted place.position) (terms doc)
