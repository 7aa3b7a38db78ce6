-- Rows that may have a number in a range: by the numbers that they were stored with, or since numbers were set in them.
use Rattle.std.proofs.Common.{◌≡◌, ◌∙◌, ℕ, zero, suc, ℤ, ◌+◌, List, [], ◌∷◌, Bool, true, false, ◌||◌, ◌==◌, length, get_or, Option, refl, sym, ap, subst, arith, if◌then◌else◌}
use Rattle.std.proofs.lemmas.Bool.{eq-eqb}
use Rattle.ix_base.specs.Matches.{matches, is_within, value_of}
use Rattle.ix_base.specs.Tree.{range}
use Rattle.ix_base.specs.Inversion.{at_row, has_number}
use Rattle.ix_base.specs.Documents.{Document}
use Rattle.ix_base.specs.Steps.{Named}
use Rattle.ix_base.specs.declared.document.Row.{Row}
use Rattle.live_docs.specs.declared.live_docs.Mark.{Mark}
use Rattle.live_docs.specs.Marks.{fresh, has_numbers, numbered_from, numbered_rows, SetNumbersAreAMap}
use Rattle.query_core.specs.Answers.{number_at}
use Rattle.query_core.proofs.Ranged.{within_at}
use Rattle.segment_core.specs.Segments.{documents}
use Rattle.segment_core.specs.Marking.{documents_now}
use Rattle.segment_core.specs.Columns.{numbers_of, within_from}
use Rattle.segment_core.proofs.FoundNow.{first_of, number_now}

here_first : (k n : ℕ) (more : List ℕ) → k ≡ n → has_number (k ∷ more) n ≡ true
here_first k n more e = ap (λ b. b || has_number more n) (eq-eqb k n e)

here_later : (k n : ℕ) (more : List ℕ) → has_number more n ≡ true → has_number (k ∷ more) n ≡ true
here_later k n more e = ap (λ b. (k == n) || b) e ∙ ends (k == n)
  where
    ends : (b : Bool) → (b || true) ≡ true
    ends true = refl
    ends false = refl

moved : (k r : ℕ) (xs : List ℕ) → has_number xs ((k + 1) + r) ≡ true → has_number xs (k + suc r) ≡ true
moved k r xs e = subst (λ n. has_number xs n ≡ true) (omega arith) e

from_none : (r : ℕ) (xs : List ℕ) → has_number xs (0 + r) ≡ true → has_number xs r ≡ true
from_none r xs e = subst (λ n. has_number xs n ≡ true) (omega arith) e

kept_first : (b : Bool) (k n : ℕ) (more : List ℕ) → b ≡ true → k ≡ n → has_number (if b then k ∷ more else more) n ≡ true
kept_first true k n more t e = here_first k n more e
kept_first false k n more t e = cc

kept_later : (b : Bool) (k n : ℕ) (more : List ℕ) → has_number more n ≡ true → has_number (if b then k ∷ more else more) n ≡ true
kept_later true k n more e = here_later k n more e
kept_later false k n more e = e

-- a row whose own number is in the bounds is found
pub stored_found : (name : List ℕ) (low high : ℤ) (k : ℕ) (rows : List Row) (r : ℕ) → is_within low high (number_at (documents rows) r name) ≡ true
    → has_number (within_from k low high (numbers_of name rows)) (k + r) ≡ true
stored_found name low high k [] r e = cc
stored_found name low high k (row ∷ rows) zero e =
    kept_first (is_within low high (value_of name row.doc.num)) k (k + zero) (within_from (k + 1) low high (numbers_of name rows)) e (omega arith)
stored_found name low high k (row ∷ rows) (suc r) e =
    kept_later (is_within low high (value_of name row.doc.num)) k (k + suc r) (within_from (k + 1) low high (numbers_of name rows))
    (moved k r (within_from (k + 1) low high (numbers_of name rows)) (stored_found name low high (k + 1) rows r e))

-- a row in which numbers were set is found
pub numbered_found : (k : ℕ) (marks : List Mark) (r : ℕ) → has_numbers (get_or marks r fresh).values ≡ true → has_number (numbered_from k marks) (k + r) ≡ true
numbered_found k [] r e = cc
numbered_found k (m ∷ marks) zero e = kept_first (has_numbers m.values) k (k + zero) (numbered_from (k + 1) marks) e (omega arith)
numbered_found k (m ∷ marks) (suc r) e =
    kept_later (has_numbers m.values) k (k + suc r) (numbered_from (k + 1) marks) (moved k r (numbered_from (k + 1) marks) (numbered_found (k + 1) marks r e))

-- a number that is in the bounds was set, or is the row's own
either : (name : List ℕ) (low high : ℤ) (values : List Named) (own : Option ℤ) → is_within low high (first_of (value_of name values) own) ≡ true
    → (found set : Bool) → (is_within low high own ≡ true → found ≡ true) → (has_numbers values ≡ true → set ≡ true) → (found || set) ≡ true
either name low high [] own e found set stored numbered = ap (λ b. b || set) (stored e)
either name low high (v ∷ values) own e found set stored numbered = ap (λ b. found || b) (numbered refl) ∙ ends found
  where
    ends : (b : Bool) → (b || true) ≡ true
    ends true = refl
    ends false = refl

-- a row whose document matches the range now is among those that the column finds, or those in which numbers were set
pub candidate : SetNumbersAreAMap → (name : List ℕ) (low high : ℤ) (rows : List Row) (marks : List Mark) (docs : List Document) (r : ℕ) → length marks ≡ length rows → docs ≡ documents_now rows marks
    → at_row (matches (range name low high)) docs r ≡ true
    → (has_number (within_from 0 low high (numbers_of name rows)) r || has_number (numbered_rows marks) r) ≡ true
candidate law name low high rows marks docs r long is matched =
    either name low high (get_or marks r fresh).values (number_at (documents rows) r name) here
    (has_number (within_from 0 low high (numbers_of name rows)) r) (has_number (numbered_rows marks) r)
    (λ e. from_none r (within_from 0 low high (numbers_of name rows)) (stored_found name low high 0 rows r e))
    (λ e. from_none r (numbered_rows marks) (numbered_found 0 marks r e))
  where
    now_at : number_at docs r name ≡ first_of (value_of name (get_or marks r fresh).values) (number_at (documents rows) r name)
    now_at = ap (λ (ds : List Document). number_at ds r name) is ∙ number_now law name rows marks r long

    here : is_within low high (first_of (value_of name (get_or marks r fresh).values) (number_at (documents rows) r name)) ≡ true
    here = ap (is_within low high) (sym now_at) ∙ (within_at name low high docs r ∙ matched)
