-- In how many lists of rows an operation has rows, and how often their births stand there.
use Rattle.std.proofs.Common.{◌≡◌, ℕ, ◌+◌, ◌≤◌, Bool, true, false, cond, eqb, List, [], ◌∷◌, ◌++◌, map, refl, ap, arith}
use Rattle.std.specs.Prelude.{◌||◌}
use Rattle.std.specs.List.{flat_map}
use Rattle.std.proofs.lemmas.Bool.{eqb-true, eq-eqb, or_left, or_parts, or_right}
use Rattle.ix_base.specs.Births.{first_birth, last_birth, number_of}
use Rattle.ix_base.specs.declared.document.Row.{Row}
use Rattle.segment_core.specs.LiveRows.{Lived, stored_rows}
use Rattle.segment_core.specs.Births.{births_at, births_append, BirthsDiffer, EachRises, at_most_one, by_bool, has_number, lists_at, one_false, one_true, SegmentsApart}

-- ---- one list

-- the list counts where it has a row of the operation
abbrev pub one_list : ℕ → List Row → ℕ
one_list n rows = cond (has_number rows n) 1 0

pub list_true : (n : ℕ) (rows : List Row) → has_number rows n ≡ true → one_list n rows ≡ 1
list_true n rows e = rw e refl

pub list_false : (n : ℕ) (rows : List Row) → has_number rows n ≡ false → one_list n rows ≡ 0
list_false n rows e = rw e refl

pub one_at_most : (n : ℕ) (rows : List Row) → one_list n rows ≤ 1
one_at_most n rows = by_bool (has_number rows n) (λ e. omega (arith, list_true n rows e)) (λ e. omega (arith, list_false n rows e))

or_either : (a b : Bool) → (a || b) ≡ true → a ≡ false → b ≡ true
or_either true b e f = absurd cc
or_either false b e f = e

-- a birth that stands among the rows is one of its number
pub has_number_of : (b : ℕ) (rows : List Row) → 1 ≤ births_at b rows → has_number rows (number_of b) ≡ true
has_number_of b [] some = absurd (omega arith)
has_number_of b (r ∷ rs) some =
    by_bool (eqb r.birth b)
    (λ e. or_left (eqb (number_of r.birth) (number_of b)) (has_number rs (number_of b)) (eq-eqb _ _ (ap number_of (eqb-true r.birth b e))))
    (λ e. or_right (eqb (number_of r.birth) (number_of b)) (has_number rs (number_of b)) (has_number_of b rs (omega (arith, some, one_false b r e))))

-- and where no row is of its number, it stands nowhere
births_none : (b : ℕ) (rows : List Row) → has_number rows (number_of b) ≡ false → births_at b rows ≡ 0
births_none b [] e = refl
births_none b (r ∷ rs) e =
    by_bool (eqb r.birth b)
    (λ h. absurd (clash (has_number_of b (r ∷ rs) (omega (arith, one_true b r h))) e))
    (λ h. omega (arith, one_false b r h, births_none b rs ((or_parts (eqb (number_of r.birth) (number_of b)) (has_number rs (number_of b)) e).1)))
  where
    clash : has_number (r ∷ rs) (number_of b) ≡ true → has_number (r ∷ rs) (number_of b) ≡ false → ⊥
    clash t f = cc

-- a birth of the number that stands among the rows
pub birth_with : (n : ℕ) (rows : List Row) → has_number rows n ≡ true → (b : ℕ) × (number_of b ≡ n) × (1 ≤ births_at b rows)
birth_with n [] e = absurd cc
birth_with n (r ∷ rs) e =
    by_bool (eqb (number_of r.birth) n)
    (λ h. (r.birth, eqb-true (number_of r.birth) n h, omega (arith, one_true r.birth r (eq-eqb r.birth r.birth refl))))
    (λ h. let more = birth_with n rs (or_either (eqb (number_of r.birth) n) (has_number rs n) e h) in (more.0, more.1, omega (arith, more.2)))

-- ---- many lists

pub lists_joined : {X : Type 0} (rows : X → List Row) (n : ℕ) (xs ys : List X) → lists_at n (map rows (xs ++ ys)) ≡ lists_at n (map rows xs) + lists_at n (map rows ys)
lists_joined rows n [] ys = omega arith
lists_joined rows n (x ∷ xs) ys = omega (arith, lists_joined rows n xs ys)

-- a birth that stands among all rows is one of its number in some list
pub lists_of_birth : {X : Type 0} (rows : X → List Row) (b : ℕ) (xs : List X) → 1 ≤ births_at b (flat_map rows xs) → 1 ≤ lists_at (number_of b) (map rows xs)
lists_of_birth rows b [] some = absurd (omega arith)
lists_of_birth rows b (x ∷ xs) some =
    by_bool (has_number (rows x) (number_of b))
    (λ e. omega (arith, list_true (number_of b) (rows x) e))
    (λ e. omega (arith, lists_of_birth rows b xs (omega (arith, some, births_append b (rows x) (flat_map rows xs), births_none b (rows x) e))))

-- a birth of a number of which some list has a row
pub birth_in_lists : {X : Type 0} (rows : X → List Row) (n : ℕ) (xs : List X) → 1 ≤ lists_at n (map rows xs)
    → (b : ℕ) × (number_of b ≡ n) × (1 ≤ births_at b (flat_map rows xs))
birth_in_lists rows n [] some = absurd (omega arith)
birth_in_lists rows n (x ∷ xs) some =
    by_bool (has_number (rows x) n)
    (λ e. let here = birth_with n (rows x) e in (here.0, here.1, omega (arith, here.2, births_append here.0 (rows x) (flat_map rows xs))))
    (λ e.
    let more = birth_in_lists rows n xs (omega (arith, some, list_false n (rows x) e)) in
    (more.0, more.1, omega (arith, more.2, births_append more.0 (rows x) (flat_map rows xs))))

-- ---- segments

few_births : (b : ℕ) (rows : List Row) → births_at b rows ≤ 1 → births_at b rows ≤ one_list (number_of b) rows
few_births b rows le =
    by_bool (has_number rows (number_of b))
    (λ e. omega (arith, le, list_true (number_of b) rows e))
    (λ e. omega (arith, births_none b rows e))

-- a birth stands at most as often as segments have rows of its number
births_few : (s b : ℕ) (segments : List Lived) → EachRises s segments
    → births_at b (stored_rows segments) ≤ lists_at (number_of b) (map (λ (g : Lived). g.segment.rows) segments)
births_few s b [] rise = omega arith
births_few s b (g ∷ gs) rise =
    let here = few_births b g.segment.rows (at_most_one (first_birth 1) (last_birth s) b g.segment.rows rise.0) in
    omega (arith, births_append b g.segment.rows (stored_rows gs), births_few s b gs rise.1, here)

-- where births rise in each segment, and no operation has rows in two, no two rows have one birth
pub births_differ : (s : ℕ) (segments : List Lived) → EachRises s segments → SegmentsApart segments → BirthsDiffer segments
births_differ s segments rise apart b = omega (arith, births_few s b segments rise, apart (number_of b))
