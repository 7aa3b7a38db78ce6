-- Operations that have no rows in an earlier segment.
use Rattle.std.proofs.Common.{◌≡◌, ℕ, ◌≤◌, Bool, true, false, eqb, List, [], ◌∷◌, map, refl, subst, arith}
use Rattle.std.specs.Prelude.{◌||◌}
use Rattle.std.specs.List.{AllByRecursion}
use Rattle.std.proofs.lemmas.Bool.{eqb-true, eq-eqb, or_left, or_parts, or_right}
use Rattle.ix_base.specs.Births.{number_of}
use Rattle.ix_base.specs.declared.document.Row.{Row}
use Rattle.segment_core.specs.LiveRows.{Lived}
use Rattle.segment_core.specs.Births.{by_bool, has_number, lists_at, SegmentsApart}
use Rattle.segment_core.proofs.Numbers.{list_false, list_true}
use Rattle.commit_point.specs.Loading.{Unknown}

-- in how many of the segments the operation of this number has rows
abbrev segments_at : ℕ → List Lived → ℕ
segments_at n segments = lists_at n (map (λ (g : Lived). g.segment.rows) segments)

-- ---- one segment

-- an operation whose number is known has no row here
known_none : (known : ℕ → Bool) (n : ℕ) (rows : List Row) → AllByRecursion (λ (r : Row). known (number_of r.birth) ≡ false) rows → known n ≡ true → has_number rows n ≡ false
known_none known n [] all e = refl
known_none known n (r ∷ rs) all e =
    by_bool (eqb (number_of r.birth) n)
    (λ h. absurd (clash (subst (λ (x : ℕ). known x ≡ false) (eqb-true (number_of r.birth) n h) all.0)))
    (λ h. rw h (known_none known n rs all.1 e))
  where
    clash : known n ≡ false → ⊥
    clash f = cc

-- and where no known one has, no row is of a known one
all_unknown : (known : ℕ → Bool) (rows : List Row) → ((n : ℕ) → known n ≡ true → has_number rows n ≡ false) → AllByRecursion (λ (r : Row). known (number_of r.birth) ≡ false) rows
all_unknown known [] none = tt
all_unknown known (r ∷ rs) none =
    let n : ℕ = number_of r.birth in (
      by_bool (known n) (λ e. absurd (clash (or_left (eqb n n) (has_number rs n) (eq-eqb n n refl)) (none n e))) (λ e. e),
      all_unknown known rs (λ m e. (or_parts (eqb n m) (has_number rs m) (none m e)).1),
    )
  where
    clash : has_number (r ∷ rs) (number_of r.birth) ≡ true → has_number (r ∷ rs) (number_of r.birth) ≡ false → ⊥
    clash t f = cc

-- ---- segments

once : (known : ℕ → Bool) (segments : List Lived) → Unknown known segments → (n : ℕ) → (segments_at n segments ≤ 1) × (known n ≡ true → segments_at n segments ≡ 0)
once known [] unknown n = (omega arith, λ e. refl)
once known (g ∷ gs) unknown n =
    let rows = g.segment.rows in
    let more = once (λ m. known m || has_number g.segment.rows m) gs unknown.1 n in (
      by_bool (has_number rows n)
          (λ e. omega (arith, list_true n rows e, more.1 (or_right (known n) (has_number rows n) e)))
          (λ e. omega (arith, list_false n rows e, more.0)),
      λ e. omega (arith, list_false n rows (known_none known n rows unknown.0 e), more.1 (or_left (known n) (has_number rows n) e)),
    )

unknown_from : (known : ℕ → Bool) (segments : List Lived) → ((n : ℕ) → segments_at n segments ≤ 1) → ((n : ℕ) → known n ≡ true → segments_at n segments ≡ 0) → Unknown known segments
unknown_from known [] one none = tt
unknown_from known (g ∷ gs) one none =
    let rows = g.segment.rows in (
      all_unknown known rows (λ n e. by_bool (has_number rows n) (λ h. absurd (omega (arith, list_true n rows h, none n e))) (λ h. h)),
      unknown_from (λ n. known n || has_number g.segment.rows n) gs (λ n. omega (arith, one n))
          (λ n e. by_bool (known n)
          (λ k. omega (arith, none n k))
          (λ k. let has : has_number g.segment.rows n ≡ true = rw k at e in omega (arith, one n, list_true n g.segment.rows has))),
    )

-- where each segment has rows of no earlier one's operations, no operation has rows in two
pub apart_of : (segments : List Lived) → Unknown (λ n. false) segments → SegmentsApart segments
apart_of segments unknown n = (once (λ m. false) segments unknown n).0

-- and the other way round
pub unknown_of : (segments : List Lived) → SegmentsApart segments → Unknown (λ n. false) segments
unknown_of segments apart = unknown_from (λ n. false) segments apart (λ n e. absurd cc)
