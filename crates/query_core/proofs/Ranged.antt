-- Rows whose number is in a range.
use Rattle.std.proofs.Common.{◌≡◌, ◌∙◌, ℕ, ℤ, ◌<◌, List, [], ◌∷◌, Bool, true, false, ◌&&◌, cond, Option, Some, None, refl}
use Rattle.std.specs.List.{All, filter, slice_get}
use Rattle.std.specs.Option.{option_and_then, option_map_or}
use Rattle.std.proofs.lemmas.List.Elements.{All-cons, All-head, All-tail}
use Rattle.ix_base.specs.Matches.{matches, is_within, value_of}
use Rattle.ix_base.specs.Tree.{range}
use Rattle.ix_base.specs.Inversion.{at_row, has_number, rows_where}
use Rattle.ix_base.specs.Documents.{Document}
use Rattle.query_core.specs.Answers.{IsRising, number_at}
use Rattle.query_core.proofs.Joining.{has_filter}
use Rattle.query_core.proofs.Rising.{pairs_cons, pairs_head, pairs_tail}
use Rattle.query_core.proofs.Documents.{filter_rows, rows_are}

-- a row's number is in the range exactly where its document matches
pub within_at : (name : List ℕ) (low high : ℤ) (docs : List Document) (row : ℕ) → is_within low high (number_at docs row name) ≡ at_row (matches (range name low high)) docs row
within_at name low high docs row = by (slice_get docs row)
  where
    by : (o : Option Document) → is_within low high (option_and_then (λ (doc : Document). value_of name doc.num) o) ≡ option_map_or (matches (range name low high)) o false
    by None = refl
    by (Some doc) = refl

-- all rows that pass, of all rows
pub of_all : (test : Document → Bool) (docs : List Document) → filter (at_row test docs) (rows_where (λ _. true) docs) ≡ rows_where test docs
of_all test docs = filter_rows (λ _. true) test (at_row test docs) docs (λ r lt. refl)

all_kept : (P : ℕ → Type 0) (keep : ℕ → Bool) (xs : List ℕ) → All P xs → All P (filter keep xs)
all_kept P keep [] h = h
all_kept P keep (x ∷ xs) h = by (keep x) (all_kept P keep xs (All-tail P x xs h))
  where
    by : (b : Bool) → All P (filter keep xs) → All P (cond b (x ∷ filter keep xs) (filter keep xs))
    by true more = All-cons P x (filter keep xs) (All-head P x xs h) more
    by false more = more

kept_rise : (keep : ℕ → Bool) (xs : List ℕ) → IsRising xs → IsRising (filter keep xs)
kept_rise keep [] rise = rise
kept_rise keep (x ∷ xs) rise = by (keep x) (kept_rise keep xs (pairs_tail (λ a b. a < b) x xs rise))
  where
    by : (b : Bool) → IsRising (filter keep xs) → IsRising (cond b (x ∷ filter keep xs) (filter keep xs))
    by true more = pairs_cons (λ a b. a < b) x (filter keep xs) (all_kept (λ b. x < b) keep xs (pairs_head (λ a b. a < b) x xs rise)) more
    by false more = more

both_true : (a b : Bool) → (b ≡ true → a ≡ true) → (a && b) ≡ b
both_true true b f = refl
both_true false true f = f refl
both_true false false f = refl

-- of candidates those that pass are all rows that pass
pub of_candidates : (test : Document → Bool) (docs : List Document) (rows : List ℕ) → IsRising rows → ((r : ℕ) → at_row test docs r ≡ true → has_number rows r ≡ true)
    → filter (at_row test docs) rows ≡ rows_where test docs
of_candidates test docs rows rise all =
    rows_are test docs (filter (at_row test docs) rows) (kept_rise (at_row test docs) rows rise)
    (λ r. has_filter (at_row test docs) rows r ∙ both_true (has_number rows r) (at_row test docs r) (all r))
