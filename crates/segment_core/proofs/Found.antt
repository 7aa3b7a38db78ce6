-- The rows that were found by an update, and their marks.
use Rattle.std.proofs.Common.{◌≡◌, ◌∙◌, ℕ, zero, suc, ◌<◌, ◌≤◌, List, [], ◌∷◌, ◌++◌, Bool, true, false, cond, length, nat_lt, get_or, refl, sym, ap, arith, if◌then◌else◌}
use Rattle.std.proofs.lemmas.Bool.{lt-ltb}
use Rattle.ix_base.specs.Births.{first_birth}
use Rattle.ix_base.specs.declared.document.Row.{Row}
use Rattle.live_docs.specs.declared.live_docs.Mark.{Mark}
use Rattle.live_docs.specs.Marks.{changed_at}
use Rattle.row_fates.specs.Fate.{Numbered}
use Rattle.segment_core.specs.LiveRows.{above}
use Rattle.segment_core.specs.Marking.{marks_touched, marks_after, with_rows, born_before, hit, hits}
use borrow.Author.Tests.{ltb-true}

-- ---- by the rows that were found

birth_at : (n : ℕ) (pre : List Row) (row : Row) (rest : List Row) → born_before n (pre ++ row ∷ rest) (length pre) ≡ nat_lt row.birth (first_birth n)
birth_at n [] row rest = refl
birth_at n (x ∷ pre) row rest = birth_at n pre row rest

change_at : (f : Mark → Mark) (pre : List Mark) (m : Mark) (rest : List Mark) → changed_at f (length pre) (pre ++ m ∷ rest) ≡ pre ++ f m ∷ rest
change_at f [] m rest = refl
change_at f (x ∷ pre) m rest = ap (λ (ms : List Mark). x ∷ ms) (change_at f pre m rest)

pub hit_at : (n : ℕ) (f : Mark → Mark) (pre : List Row) (row : Row) (rest : List Row) (mpre : List Mark) (m : Mark) (mrest : List Mark) (k : ℕ) → k ≡ length pre → length mpre ≡ length pre
    → hit n f (pre ++ row ∷ rest) k (mpre ++ m ∷ mrest) ≡ mpre ++ (if nat_lt row.birth (first_birth n) then f m else m) ∷ mrest
hit_at n f pre row rest mpre m mrest k at same =
    ap (λ i. cond (born_before n (pre ++ row ∷ rest) i) (changed_at f k (mpre ++ m ∷ mrest)) (mpre ++ m ∷ mrest)) at
    ∙ (ap (λ b. cond b (changed_at f k (mpre ++ m ∷ mrest)) (mpre ++ m ∷ mrest)) (birth_at n pre row rest)
    ∙ (ap (λ i. cond (nat_lt row.birth (first_birth n)) (changed_at f i (mpre ++ m ∷ mrest)) (mpre ++ m ∷ mrest)) (at ∙ sym same)
    ∙ (ap (λ ms. cond (nat_lt row.birth (first_birth n)) ms (mpre ++ m ∷ mrest)) (change_at f mpre m mrest)
    ∙ by (nat_lt row.birth (first_birth n)))))
  where
    by : (b : Bool) → cond b (mpre ++ f m ∷ mrest) (mpre ++ m ∷ mrest) ≡ mpre ++ (if b then f m else m) ∷ mrest
    by true = refl
    by false = refl

-- ---- lengths

pub length-with_rows : (f : Row → Mark → Mark) (rows : List Row) (marks : List Mark) → length marks ≡ length rows → length (with_rows f rows marks) ≡ length rows
length-with_rows f [] marks long = long
length-with_rows f (row ∷ rows) [] long = long
length-with_rows f (row ∷ rows) (m ∷ marks) long = let more : length (with_rows f rows marks) ≡ length rows = length-with_rows f rows marks (omega arith) in omega arith

pub length-changed_at : (f : Mark → Mark) (i : ℕ) (marks : List Mark) → length (changed_at f i marks) ≡ length marks
length-changed_at f i [] = refl
length-changed_at f zero (m ∷ marks) = refl
length-changed_at f (suc i) (m ∷ marks) = ap suc (length-changed_at f i marks)

pub length-hit : (n : ℕ) (f : Mark → Mark) (rows : List Row) (i : ℕ) (marks : List Mark) → length (hit n f rows i marks) ≡ length marks
length-hit n f rows i marks = by (born_before n rows i)
  where
    by : (b : Bool) → length (if b then changed_at f i marks else marks) ≡ length marks
    by true = length-changed_at f i marks
    by false = refl

pub length-hits : (n : ℕ) (f : Mark → Mark) (rows : List Row) (found : List ℕ) (marks : List Mark) → length (hits n f rows found marks) ≡ length marks
length-hits n f rows [] marks = refl
length-hits n f rows (i ∷ found) marks = length-hits n f rows found (hit n f rows i marks) ∙ length-hit n f rows i marks

-- ---- one update more

pub taken_more : (low : ℕ) (o : Numbered) (rest : List Numbered) (rows : List Row) (marks after : List Mark) → low < o.0 → after ≡ marks_touched o rows marks
    → marks_after (above low rest) rows after ≡ marks_after (above low (o ∷ rest)) rows marks
taken_more low o rest rows marks after lt e =
    ap (marks_after (above low rest) rows) e ∙ sym (ap (λ b. marks_after (cond b (o ∷ above low rest) (above low rest)) rows marks) (lt-ltb low o.0 lt))

not_less : (low n : ℕ) → n ≤ low → nat_lt low n ≡ false
not_less low n le = by (nat_lt low n) refl
  where
    by : (b : Bool) → nat_lt low n ≡ b → b ≡ false
    by true e = absurd (omega (arith, ltb-true low n e))
    by false e = refl

pub passed_more : (low : ℕ) (o : Numbered) (rest : List Numbered) (rows : List Row) (marks : List Mark) → o.0 ≤ low
    → marks_after (above low rest) rows marks ≡ marks_after (above low (o ∷ rest)) rows marks
passed_more low o rest rows marks le = sym (ap (λ b. marks_after (cond b (o ∷ above low rest) (above low rest)) rows marks) (not_less low o.0 le))

-- ---- as the calls tell it

pub born_at : (n : ℕ) (rows : List Row) (i : ℕ) (row : Row) → i < length rows → row ≡ get_or rows i row → nat_lt row.birth (first_birth n) ≡ born_before n rows i
born_at n [] i row lt e = absurd (omega arith)
born_at n (x ∷ rows) zero row lt e = ap (λ (r : Row). nat_lt r.birth (first_birth n)) e
born_at n (x ∷ rows) (suc i) row lt e = born_at n rows i row (omega arith) e

pub born_past : (n : ℕ) (rows : List Row) (i : ℕ) → length rows ≤ i → false ≡ born_before n rows i
born_past n [] i le = refl
born_past n (x ∷ rows) zero le = absurd (omega arith)
born_past n (x ∷ rows) (suc i) le = born_past n rows i (omega arith)
