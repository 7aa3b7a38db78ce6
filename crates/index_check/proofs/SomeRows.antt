-- The live rows of a commit's segments, by birth: there are such, also where postings lie.
use Rattle.std.proofs.Common.{◌≡◌, ◌≢◌, ◌⊎◌, inl, inr, ℕ, ◌+◌, ◌<◌, ◌≤◌, Bool, true, false, cond, eqb, List, []}
use Rattle.std.proofs.Common.{◌∷◌, ◌++◌, refl, arith}
use Rattle.std.specs.Prelude.{Some, None, IsPermutation}
use Rattle.std.specs.List.{AllByRecursion, cons_option}
use Rattle.std.proofs.Math.Dec.{ltb}
use Rattle.std.proofs.lemmas.Bool.{cases_lt, eq-eqb, ltb-false, ltb-true}
use Rattle.std.proofs.lemmas.List.Sorted.{IsPermutation-append_left, IsPermutation-cons, IsPermutation-refl}
use Rattle.std.proofs.lemmas.List.Sorted.{IsPermutation-to_front, IsPermutation-trans}
use Rattle.ix_base.specs.Births.{first_birth, last_birth}
use Rattle.ix_base.specs.declared.document.Row.{Row}
use Rattle.ix_outside.specs.Files.{Files}
use Rattle.live_docs.specs.declared.live_docs.Mark.{Mark}
use Rattle.row_fates.specs.Fate.{renumbered}
use Rattle.segment_core.specs.LiveRows.{Lived, all_live, live, live_rows, stored_rows, with_numbers}
use Rattle.segment_files.specs.Fits.{BirthsRise}
use Rattle.commit_point.specs.declared.heads.HeadSegment.{HeadSegment}
use Rattle.segment_core.specs.Births.{births_append, births_at}
use Rattle.segment_core.proofs.Numbers.{births_differ}
use Rattle.commit_point.specs.Holds.{AreRowsOf, HasSegments, HaveSegments}
use Rattle.commit_point.proofs.Segments.{each_rises}

-- ---- one row more, at its place by birth

abbrev put : Row → List Row → List Row
put r [] = r ∷ []
put r (x ∷ xs) = cond (ltb r.birth x.birth) (r ∷ x ∷ xs) (x ∷ put r xs)

abbrev in_order : List Row → List Row
in_order [] = []
in_order (r ∷ rs) = put r (in_order rs)

put_moved : (r : Row) (xs : List Row) → IsPermutation (r ∷ xs) (put r xs)
put_moved r [] = IsPermutation-refl (r ∷ [])
put_moved r (x ∷ xs) = by_test (put_moved r xs) (ltb r.birth x.birth)
  where
    turned : IsPermutation (r ∷ x ∷ xs) (x ∷ r ∷ xs)
    turned = IsPermutation-append_left xs (r ∷ x ∷ []) (x ∷ r ∷ []) (IsPermutation-to_front (r ∷ []) x)

    by_test : IsPermutation (r ∷ xs) (put r xs) → (b : Bool) → IsPermutation (r ∷ x ∷ xs) (cond b (r ∷ x ∷ xs) (x ∷ put r xs))
    by_test rest true = IsPermutation-refl (r ∷ x ∷ xs)
    by_test rest false = IsPermutation-trans (r ∷ x ∷ xs) (x ∷ r ∷ xs) (x ∷ put r xs) turned (IsPermutation-cons x (r ∷ xs) (put r xs) rest)

ordered_moved : (rows : List Row) → IsPermutation rows (in_order rows)
ordered_moved [] = IsPermutation-refl []
ordered_moved (r ∷ rs) = IsPermutation-trans (r ∷ rs) (r ∷ in_order rs) (put r (in_order rs)) (IsPermutation-cons r rs (in_order rs) (ordered_moved rs)) (put_moved r (in_order rs))

births_put : (b : ℕ) (r : Row) (xs : List Row) → births_at b (put r xs) ≡ births_at b (r ∷ xs)
births_put b r [] = refl
births_put b r (x ∷ xs) = by_test (births_put b r xs) (ltb r.birth x.birth)
  where
    by_test : births_at b (put r xs) ≡ births_at b (r ∷ xs) → (t : Bool) → births_at b (cond t (r ∷ x ∷ xs) (x ∷ put r xs)) ≡ births_at b (r ∷ x ∷ xs)
    by_test rest true = refl
    by_test rest false = omega (arith, rest)

births_ordered : (b : ℕ) (rows : List Row) → births_at b (in_order rows) ≡ births_at b rows
births_ordered b [] = refl
births_ordered b (r ∷ rs) = omega (arith, births_put b r (in_order rs), births_ordered b rs)

put_rises : (low limit : ℕ) (r : Row) (xs : List Row) → low ≤ r.birth → r.birth ≤ limit → births_at r.birth xs ≡ 0 → BirthsRise low limit xs → BirthsRise low limit (put r xs)
put_rises low limit r [] above most none rise = (above, most, tt)
put_rises low limit r (x ∷ xs) above most none rise =
    by_test (λ after. put_rises (x.birth + 1) limit r xs after most (omega (arith, none)) rise.2) (ltb r.birth x.birth) refl
  where
    not_same : x.birth ≢ r.birth
    not_same e = let one : eqb x.birth r.birth ≡ true = eq-eqb x.birth r.birth e in let some : births_at r.birth (x ∷ xs) ≡ 1 + births_at r.birth xs = rw one refl in absurd (omega (arith, some, none))

    by_test : (x.birth + 1 ≤ r.birth → BirthsRise (x.birth + 1) limit (put r xs)) → (t : Bool) → ltb r.birth x.birth ≡ t
        → BirthsRise low limit (cond t (r ∷ x ∷ xs) (x ∷ put r xs))
    by_test rest true e = (above, most, (omega (arith, ltb-true r.birth x.birth e), rise.1, rise.2))
    by_test rest false e = (rise.0, rise.1, rest (by_order (cases_lt x.birth r.birth)))
      where
        by_order : (x.birth < r.birth) ⊎ (r.birth ≤ x.birth) → x.birth + 1 ≤ r.birth
        by_order (inl lt) = omega (arith, lt)
        by_order (inr ge) = absurd (not_same (omega (arith, ge, ltb-false r.birth x.birth e)))

abbrev Between : ℕ → Row → Type 0
Between s r = (first_birth 1 ≤ r.birth) × (r.birth ≤ last_birth s)

ordered_rises : (s : ℕ) (rows : List Row) → AllByRecursion (Between s) rows → ((b : ℕ) → births_at b rows ≤ 1) → BirthsRise (first_birth 1) (last_birth s) (in_order rows)
ordered_rises s [] between once = tt
ordered_rises s (r ∷ rs) between once =
    let one : eqb r.birth r.birth ≡ true = eq-eqb r.birth r.birth refl in
    let first : births_at r.birth (r ∷ rs) ≡ 1 + births_at r.birth rs = rw one refl in
    let none : births_at r.birth (in_order rs) ≡ 0 = omega (arith, births_ordered r.birth rs, first, once r.birth) in
    put_rises (first_birth 1) (last_birth s) r (in_order rs) between.0.0 between.0.1 none (ordered_rises s rs between.1 (λ b. omega (arith, once b)))

-- ---- the live rows are some of those that are stored

between_of : (s low : ℕ) (rows : List Row) → first_birth 1 ≤ low → BirthsRise low (last_birth s) rows → AllByRecursion (Between s) rows
between_of s low [] some rise = tt
between_of s low (r ∷ rs) some rise = ((omega (arith, some, rise.0), rise.1), between_of s (r.birth + 1) rs (omega (arith, some, rise.0)) rise.2)

live_between : (s : ℕ) (rows : List Row) (marks : List Mark) → AllByRecursion (Between s) rows → AllByRecursion (Between s) (live_rows rows marks)
live_between s [] marks all = tt
live_between s (r ∷ rs) [] all = tt
live_between s (r ∷ rs) (m ∷ ms) all = by_live m.live (live_between s rs ms all.1)
  where
    by_live : (b : Bool) → AllByRecursion (Between s) (live_rows rs ms) → AllByRecursion (Between s) (cons_option (cond b (Some (renumbered (with_numbers m.values r.doc.num) r)) None) (live_rows rs ms))
    by_live true rest = (all.0, rest)
    by_live false rest = rest

births_live : (b : ℕ) (rows : List Row) (marks : List Mark) → births_at b (live_rows rows marks) ≤ births_at b rows
births_live b [] marks = omega arith
births_live b (r ∷ rs) [] = omega arith
births_live b (r ∷ rs) (m ∷ ms) = by_live m.live (births_live b rs ms)
  where
    by_live : (t : Bool) → births_at b (live_rows rs ms) ≤ births_at b rs
        → births_at b (cons_option (cond t (Some (renumbered (with_numbers m.values r.doc.num) r)) None) (live_rows rs ms)) ≤ births_at b (r ∷ rs)
    by_live true rest = omega (arith, rest)
    by_live false rest = omega (arith, rest)

births_all : (b : ℕ) (segments : List Lived) → births_at b (all_live segments) ≤ births_at b (stored_rows segments)
births_all b [] = omega arith
births_all b (g ∷ gs) =
    omega (arith, births_append b (live g) (all_live gs), births_append b g.segment.rows (stored_rows gs), births_live b g.segment.rows g.live.marks, births_all b gs)

all_joined : (P : Row → Type 0) (xs ys : List Row) → AllByRecursion P xs → AllByRecursion P ys → AllByRecursion P (xs ++ ys)
all_joined P [] ys p q = q
all_joined P (x ∷ xs) ys p q = (p.0, all_joined P xs ys p.1 q)

all_between : (files : Files) (s : ℕ) (entries : List HeadSegment) (segments : List Lived) → HaveSegments files s entries segments → AllByRecursion (Between s) (all_live segments)
all_between files s [] [] have = tt
all_between files s [] (g ∷ gs) have = absurd have
all_between files s (e ∷ es) [] have = absurd have
all_between files s (e ∷ es) (g ∷ gs) have =
    all_joined (Between s) (live g) (all_live gs) (live_between s g.segment.rows g.live.marks (between_of s (first_birth 1) g.segment.rows (omega arith) have.0.rows_fit.births)) (all_between files s es gs have.1)

-- a commit that is spelled has rows
pub some_rows : (files : Files) (s next : ℕ) (entries : List HeadSegment) (segments : List Lived) → HasSegments files s next entries segments
    → (rows : List Row) × AreRowsOf s segments rows
some_rows files s next entries segments has = (
  in_order (all_live segments),
  record {
    merged = ordered_moved (all_live segments);
    births = ordered_rises s (all_live segments) (all_between files s entries segments has.each) (λ b. omega (arith, births_all b segments, births_differ s segments (each_rises files s entries segments has.each) has.apart b));
  },
)
