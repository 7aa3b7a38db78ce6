-- What a buffer keeps: the places of each term, by marks.
use Rattle.std.specs.Prelude.{◌≡◌, ℕ, ◌<◌, ◌≤◌, ◌↔◌, List, [], ◌∷◌, Bool, true, false, Option, Some, None, ◌++◌, All, AllPairs, map, length}
use Rattle.std.specs.List.{slice_get, slice_index_or}
use Rattle.std.specs.Option.{option_map_or}
use Rattle.std.specs.Map.{lookup}
use Rattle.std.specs.Ordering.{eq_by_cmp}
use Rattle.ix_base.specs.Births.{first_birth}
use Rattle.ix_base.specs.Inversion.{term_cmp, posted, posted_at}
use Rattle.ix_base.specs.Matches.{stands_at}
use Rattle.ix_base.specs.Terms.{terms}
use Rattle.ix_base.specs.Documents.{Document}
use Rattle.ix_base.specs.declared.document.Row.{Row}
use Rattle.ix_base.specs.declared.document.Term.{Term}
use Rattle.ix_base.specs.declared.postings.Posting.{Posting}
use Rattle.ix_base.specs.declared.postings.TermPostings.{TermPostings}
use Rattle.ram_postings.specs.Buffer.{Staged, born_rows}
use Rattle.ram_postings.specs.declared.entry.Entry.{Entry}

-- the lists have the term under the mark at the position
abbrev pub kept : List (Term × List Posting) → Term → ℕ → ℕ → Bool
kept lists t mark x = option_map_or (λ rows. posted_at rows mark x) (lookup (eq_by_cmp term_cmp t) lists) false

-- all marks in the lists are below this one
abbrev pub IsKeptBelow : ℕ → List (Term × List Posting) → Type 0
IsKeptBelow mark lists = (t : Term) (m x : ℕ) → kept lists t m x ≡ true → m < mark

-- the lists are the same but for one mark
abbrev pub SameButFor : ℕ → List (Term × List Posting) → List (Term × List Posting) → Type 0
SameButFor mark old new = (t : Term) (m x : ℕ) → (m ≡ mark → ⊥) → kept new t m x ≡ kept old t m x

-- the lists have the terms of these postings in row 0, and no others, under the mark
abbrev pub HasUnder : ℕ → List TermPostings → List (Term × List Posting) → Type 0
HasUnder mark entries lists = (t : Term) (x : ℕ) → kept lists t mark x ≡ posted entries t.field t.bytes 0 x

-- ---- numbers of rows

-- the number of a row, where it has one
abbrev pub number_of : List (Option ℕ) → ℕ → Option ℕ
number_of numbers row = slice_index_or numbers row None

-- later rows have higher numbers
abbrev pub NumbersRise : List (Option ℕ) → Type 0
NumbersRise numbers = (m n r s : ℕ) → number_of numbers m ≡ Some r → number_of numbers n ≡ Some s → m < n → r < s

-- no row has this number
abbrev pub HasNoNumber : List (Option ℕ) → ℕ → Type 0
HasNoNumber numbers r = (m : ℕ) → number_of numbers m ≡ Some r → ⊥

-- all rows of the postings are below all of these numbers
abbrev pub IsBelowNumbers : List Posting → List (Option ℕ) → Type 0
IsBelowNumbers rows numbers = (r x m s : ℕ) → posted_at rows r x ≡ true → number_of numbers m ≡ Some s → r < s

-- each mark has its place among the marks as its number
abbrev pub ArePlaces : List ℕ → List (Option ℕ) → Type 0
ArePlaces marks numbers = (m r : ℕ) → (number_of numbers m ≡ Some r) ↔ (slice_get marks r ≡ Some m)

-- what stood in a row that has a number stands in the row of that number
abbrev pub IsRenumbered : List (Option ℕ) → List Posting → List Posting → Type 0
IsRenumbered numbers old new = (m r x : ℕ) → number_of numbers m ≡ Some r → posted_at new r x ≡ posted_at old m x

-- nothing stands in a row that is no number
abbrev pub StandsInNumbers : List (Option ℕ) → List Posting → Type 0
StandsInNumbers numbers rows = (r x : ℕ) → HasNoNumber numbers r → posted_at rows r x ≡ false

-- the same of all terms
abbrev pub AreRenumbered : List (Option ℕ) → List (Term × List Posting) → List TermPostings → Type 0
AreRenumbered numbers lists entries =
    (t : Term) (m r x : ℕ) → number_of numbers m ≡ Some r → posted entries t.field t.bytes r x ≡ kept lists t m x

abbrev pub StandInNumbers : List (Option ℕ) → List TermPostings → Type 0
StandInNumbers numbers entries =
    (t : Term) (r x : ℕ) → HasNoNumber numbers r → posted entries t.field t.bytes r x ≡ false

-- ---- the documents

abbrev pub staged_of : Entry → Staged
staged_of e = record { doc = e.doc; birth = e.birth }

-- the mark of a document that was born
abbrev pub mark_of : ℕ → Option ℕ → List ℕ
mark_of mark None = []
mark_of mark (Some birth) = mark ∷ []

-- the marks of those that were born
abbrev pub born_marks : List Entry → List ℕ
born_marks [] = []
born_marks (e ∷ es) = mark_of e.mark e.birth ++ born_marks es

-- a document, and its mark
abbrev pub placed_of : Entry → Document × ℕ
placed_of e = (e.doc, e.mark)

-- the document's terms are kept under its mark exactly where they stand in it
abbrev pub IsKept : List (Term × List Posting) → Document × ℕ → Type 0
IsKept lists p = (t : Term) (x : ℕ) → kept lists t p.1 x ≡ stands_at (terms p.0) t.field t.bytes x

-- Marks rise, all are below the next one, and each document's terms are kept under its mark.
pub record AreKept (docs : List (Document × ℕ)) (next : ℕ) (lists : List (Term × List Posting)) : Type 0 where
  pub rise : AllPairs (λ a b. a.1 < b.1) docs
  pub below : All (λ p. p.1 < next) docs
  pub lists_below : IsKeptBelow next lists
  pub exact : All (IsKept lists) docs

-- the births rise, from the first one of the operation 1 at least
pub record AreBirths (rows : List Row) : Type 0 where
  pub rise : AllPairs (λ a b. a.birth < b.birth) rows
  pub positive : All (λ row. first_birth 1 ≤ row.birth) rows

pub record IsBuffer (staged : List Entry) (next : ℕ) (lists : List (Term × List Posting)) : Type 0 where
  pub few : length staged < 2147483648
  pub documents : AreKept (map placed_of staged) next lists
  pub births : AreBirths (born_rows (map staged_of staged))
