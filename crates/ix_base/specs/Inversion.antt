-- When postings are the inversion of a list of documents.
use Rattle.std.specs.Prelude.{◌≡◌, ℕ, ◌<◌, List, [], ◌∷◌, Bool, false, ◌&&◌, if◌then◌else◌, length, ◌+◌, AllPairs, All}
use Rattle.std.specs.List.{list_any, slice_get}
use Rattle.std.specs.Option.{option_map_or}
use Rattle.std.specs.Str.{bytes_eq}
use Rattle.std.specs.Cmp.Lexicographic.{slice_cmp}
use Rattle.std.specs.Ordering.{nat_cmp, ordering_then}
use Rattle.std.specs.declared.cmp.Ordering.{Ordering}
use Rattle.std.specs.declared.cmp.Ordering.TheVariants.{Less}
use Rattle.ix_base.specs.Terms.{terms}
use Rattle.ix_base.specs.Matches.{stands_at}
use Rattle.ix_base.specs.Documents.{Document}
use Rattle.ix_base.specs.declared.document.Term.{Term}
pub use Rattle.ix_base.specs.Posted.{has_number, posted_at, IsPosting}
use Rattle.ix_base.specs.declared.postings.TermPostings.{TermPostings}
use Rattle.ix_base.specs.declared.postings.Postings.{Postings}

-- terms are ordered by their fields' bytes, and then by their own
abbrev pub term_cmp : Term → Term → Ordering
term_cmp a b = ordering_then (slice_cmp nat_cmp a.field b.field) (slice_cmp nat_cmp a.bytes b.bytes)

-- ---- in documents: row i is the i-th

-- what a test says of the document of a row; false where there is no such row
abbrev pub at_row : (Document → Bool) → List Document → ℕ → Bool
at_row test docs row = option_map_or test (slice_get docs row) false

-- the row's document has the term at the position
abbrev pub stands_in_row : List Document → List ℕ → List ℕ → ℕ → ℕ → Bool
stands_in_row docs field bytes row at = at_row (λ doc. stands_at (terms doc) field bytes at) docs row

abbrev pub rows_from : ℕ → (Document → Bool) → List Document → List ℕ
rows_from row test [] = []
rows_from row test (doc ∷ docs) =
    if test doc then row ∷ rows_from (row + 1) test docs else rows_from (row + 1) test docs

-- the rows whose documents pass the test, rising
abbrev pub rows_where : (Document → Bool) → List Document → List ℕ
rows_where = rows_from 0

-- ---- in postings

-- the postings have the term in the row at the position
abbrev pub posted : List TermPostings → List ℕ → List ℕ → ℕ → ℕ → Bool
posted entries field bytes row at =
    list_any (λ entry. (bytes_eq entry.term.field field && bytes_eq entry.term.bytes bytes)
    && posted_at entry.rows row at) entries

-- a term has a row at least, and its rows rise
pub record IsTermPostings (entry : TermPostings) : Type 0 where
  pub some : 0 < length entry.rows
  pub rise : AllPairs (λ a b. a.row < b.row) entry.rows
  pub each : All IsPosting entry.rows

-- the terms rise
pub record IsPostings (entries : List TermPostings) : Type 0 where
  pub rise : AllPairs (λ a b. term_cmp a.term b.term ≡ Less) entries
  pub each : All IsTermPostings entries

-- The terms stand in the postings exactly where they stand in the documents. So there is one
-- inversion at most, and each of its rows is that of a document.
pub record IsInversion (docs : List Document) (postings : Postings) : Type 0 where
  pub ordered : IsPostings postings.terms
  pub exact : (field bytes : List ℕ) (row at : ℕ)
      → posted postings.terms field bytes row at ≡ stands_in_row docs field bytes row at
