-- Births in lists of rows, and in those of segments: how often each stands there, and in how many lists an operation has rows.
use Rattle.std.proofs.Common.{◌≡◌, ◌≢◌, ℕ, ◌+◌, ◌<◌, ◌≤◌, Bool, true, false, cond, eqb, List, [], ◌∷◌, ◌++◌, map, refl, arith}
use Rattle.std.specs.List.{AllByRecursion, list_any}
use Rattle.std.specs.Prelude.{◌==◌, if◌then◌else◌}
use Rattle.std.proofs.lemmas.Bool.{eqb-true}
use Rattle.ix_base.specs.Births.{first_birth, last_birth, number_of}
use Rattle.ix_base.specs.declared.document.Row.{Row}
use Rattle.segment_files.specs.Fits.{BirthsRise}
use Rattle.segment_core.specs.LiveRows.{Lived, stored_rows}

-- how many rows have this birth
abbrev pub births_at : ℕ → List Row → ℕ
births_at b [] = 0
births_at b (r ∷ rs) = (if r.birth == b then 1 else 0) + births_at b rs

-- no two rows of the segments have one birth, live or not
abbrev pub BirthsDiffer : List Lived → Type 0
BirthsDiffer segments = (b : ℕ) → births_at b (stored_rows segments) ≤ 1

-- some row is of the operation of this number
abbrev pub has_number : List Row → ℕ → Bool
has_number rows n = list_any (λ r. number_of r.birth == n) rows

-- how many of the lists have a row of the operation of this number
abbrev pub lists_at : ℕ → List (List Row) → ℕ
lists_at n [] = 0
lists_at n (rows ∷ more) = (if has_number rows n then 1 else 0) + lists_at n more

-- no operation has rows in two of the lists
abbrev pub NumbersApart : List (List Row) → Type 0
NumbersApart lists = (n : ℕ) → lists_at n lists ≤ 1

-- no operation has rows in two of the segments, live or not
abbrev pub SegmentsApart : List Lived → Type 0
SegmentsApart segments = NumbersApart (map (λ (g : Lived). g.segment.rows) segments)

-- in each segment births rise, from the first of number 1 up to the last of number s
abbrev pub EachRises : ℕ → List Lived → Type 0
EachRises s segments = AllByRecursion (λ (g : Lived). BirthsRise (first_birth 1) (last_birth s) g.segment.rows) segments

-- ---- laws

abbrev pub one_at : ℕ → Row → ℕ
one_at b r = cond (eqb r.birth b) 1 0

pub births_append : (b : ℕ) (xs ys : List Row) → births_at b (xs ++ ys) ≡ births_at b xs + births_at b ys
births_append b [] ys = omega arith
births_append b (x ∷ xs) ys = omega (arith, births_append b xs ys)

pub by_bool : {A : Type 0} (b : Bool) → (b ≡ true → A) → (b ≡ false → A) → A
by_bool true yes_ no_ = yes_ refl
by_bool false yes_ no_ = no_ refl

pub one_true : (b : ℕ) (r : Row) → eqb r.birth b ≡ true → one_at b r ≡ 1
one_true b r e = rw e refl

pub one_false : (b : ℕ) (r : Row) → eqb r.birth b ≡ false → one_at b r ≡ 0
one_false b r e = rw e refl

pub one_other : (b : ℕ) (r : Row) → r.birth ≢ b → one_at b r ≡ 0
one_other b r ne = by_bool (eqb r.birth b) (λ e. absurd (ne (eqb-true _ _ e))) (one_false b r)

below_none : (low s b : ℕ) (rows : List Row) → BirthsRise low s rows → b < low → births_at b rows ≡ 0
below_none low s b [] rise lt = refl
below_none low s b (r ∷ rs) rise lt =
    let here : one_at b r ≡ 0 = one_other b r (λ e. absurd (omega (arith, e, rise.0))) in
    omega (arith, here, below_none (r.birth + 1) s b rs rise.2 (omega (arith, rise.0)))

pub at_most_one : (low s b : ℕ) (rows : List Row) → BirthsRise low s rows → births_at b rows ≤ 1
at_most_one low s b [] rise = omega arith
at_most_one low s b (r ∷ rs) rise =
    by_bool (eqb r.birth b)
    (λ e. let is : r.birth
    ≡ b = eqb-true _ _ e in omega (
      arith,
      one_true b r e,
      below_none (r.birth
          + 1) s b rs rise.2 (omega (arith, is)),
    ))
    (λ e. omega (arith, one_false b r e, at_most_one (r.birth + 1) s b rs rise.2))
