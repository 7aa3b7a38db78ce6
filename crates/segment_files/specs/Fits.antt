-- Which values have a spelling in a segment's files: so that one file spells one value.
use Rattle.std.specs.Prelude.{◌≡◌, ℕ, ℤ, ◌+◌, ◌<◌, ◌≤◌, ◌^◌, List, [], ◌∷◌, Bool, true, false, length, map, FitsSigned, ⊤}
use Rattle.std.specs.Int.{w64}
use Rattle.std.specs.List.{AllByRecursion}
use Rattle.ix_base.specs.Births.{first_birth, last_birth, number_of}
use Rattle.ix_base.specs.Limits.{names_rise}
use Rattle.ix_base.specs.Spelling.{IsText, IsName}
use Rattle.ix_base.specs.Documents.{is_apart}
use Rattle.ix_base.specs.Documents.{Document}
use Rattle.ix_base.specs.Inversion.{IsPostings}
use Rattle.ix_base.specs.declared.document.Row.{Row}
use Rattle.ix_base.specs.declared.postings.Posting.{Posting}
use Rattle.ix_base.specs.declared.postings.TermPostings.{TermPostings}
use Rattle.ix_base.specs.declared.postings.Postings.{Postings}

-- ---- rows

pub record FieldFits (pair : List ℕ × List ℕ) : Type 0 where
  pub name : IsName pair.0
  pub text : IsText pair.1

-- pairs by rising names
pub record PairsFit (pairs : List (List ℕ × List ℕ)) : Type 0 where
  pub count : length pairs < 2 ^ 32
  pub each : AllByRecursion FieldFits pairs
  pub rise : names_rise (map (λ pair. pair.0) pairs) ≡ true

pub record NumberFits (pair : List ℕ × ℤ) : Type 0 where
  pub name : IsName pair.0
  pub value : FitsSigned w64 pair.1

-- names rise in each list; `key` names no field, and no name stands in both lists of texts
pub record DocumentFits (doc : Document) : Type 0 where
  pub key : IsText doc.key
  pub text_count : length doc.text < 2 ^ 32
  pub text : AllByRecursion FieldFits doc.text
  pub text_rises : names_rise (map (λ pair. pair.0) doc.text) ≡ true
  pub exact_count : length doc.exact < 2 ^ 32
  pub exact : AllByRecursion FieldFits doc.exact
  pub exact_rises : names_rise (map (λ pair. pair.0) doc.exact) ≡ true
  pub num_count : length doc.num < 2 ^ 64
  pub num : AllByRecursion NumberFits doc.num
  pub num_rises : names_rise (map (λ pair. pair.0) doc.num) ≡ true
  pub apart : is_apart doc ≡ true

-- births rise, from some birth up to a limit
abbrev pub BirthsRise : ℕ → ℕ → List Row → Type 0
BirthsRise low limit [] = ⊤
BirthsRise low limit (r ∷ rs) = (low ≤ r.birth) × (r.birth ≤ limit) × BirthsRise (r.birth + 1) limit rs

-- the rows of a segment in the commit numbered s
pub record RowsFit (s : ℕ) (rows : List Row) : Type 0 where
  pub some : 1 ≤ length rows
  pub count : length rows < 2 ^ 32
  pub births : BirthsRise (first_birth 1) (last_birth s) rows
  pub documents : AllByRecursion (λ (r : Row). DocumentFits r.doc) rows

-- the rows of a segment of n rows, in the commit numbered s, of which none is of an operation whose number is known
pub record IsSegment (s n : ℕ) (known : ℕ → Bool) (rows : List Row) : Type 0 where
  pub fits : RowsFit s rows
  pub count : length rows ≡ n
  pub unknown : AllByRecursion (λ (r : Row). known (number_of r.birth) ≡ false) rows

-- ---- postings

-- each row of these postings is below n
abbrev pub RowsBelow : ℕ → Postings → Type 0
RowsBelow n postings = AllByRecursion (λ (entry : TermPostings). AllByRecursion (λ (p : Posting). p.row < n) entry.rows) postings.terms

-- the positions of a row fit their fields
pub record PostingFits (p : Posting) : Type 0 where
  pub count : length p.positions < 2 ^ 32
  pub positions : AllByRecursion (λ x. x < 2 ^ 32) p.positions

-- a term and its rows fit their fields
pub record TermFits (entry : TermPostings) : Type 0 where
  pub field : IsName entry.term.field
  pub bytes : IsText entry.term.bytes
  pub count : length entry.rows < 2 ^ 32
  pub rows : AllByRecursion PostingFits entry.rows

-- The postings of a segment of n rows: terms rise, and each has a row; rows rise below n, and each has a position;
-- positions rise.
pub record PostingsFit (n : ℕ) (postings : Postings) : Type 0 where
  pub ordered : IsPostings postings.terms
  pub below : RowsBelow n postings
  pub count : length postings.terms < 2 ^ 64
  pub terms : AllByRecursion TermFits postings.terms
