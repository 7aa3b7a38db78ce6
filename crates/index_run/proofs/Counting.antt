-- Commits found by their numbers.
use Rattle.std.proofs.Common.{◌≡◌, ◌⊎◌, inl, inr, ℕ, zero, suc, ◌<◌, ◌≤◌, true, false, ltb, List, [], ◌∷◌, length}
use Rattle.std.proofs.Common.{get_or, refl, sym, arith}
use Rattle.std.specs.List.Sorted.{IsNonDecreasingBy, IsPartitionPoint}
use Rattle.std.proofs.lemmas.Bool.{ltb-true, ltb-false}
use Rattle.run_log.specs.Headline.{IsIn}
use Rattle.run_log.proofs.CommitLaws.{rises_above}
use Rattle.run_log.specs.Numbering.{Rises}
use Rattle.index_run.specs.Replied.{IsCounted, numbers_of}

-- the first commit that isn't below a number that one of them has is the one of that number
counted_at : (low : ℕ) (commits : List (ℕ × ℕ)) (n at : ℕ) → Rises low (numbers_of commits)
    → IsIn (numbers_of commits) n → ((k : ℕ) (d : ℕ × ℕ) → k < at → (get_or commits k d).0 < n)
    → ((k : ℕ) (d : ℕ × ℕ) → at ≤ k → k < length commits → n ≤ (get_or commits k d).0)
    → (at < length commits) × ((d : ℕ × ℕ) → IsCounted commits n (get_or commits at d).1)
counted_at low [] n at rise is below above = absurd is
counted_at low (c ∷ commits) n zero rise is below above =
    let le : n ≤ c.0 = above 0 c (omega arith) (omega arith) in
    first is le
  where
    first : (n ≡ c.0) ⊎ IsIn (numbers_of commits) n → n ≤ c.0
        → (0 < suc (length commits)) × ((d : ℕ × ℕ) → IsCounted (c ∷ commits) n c.1)
    first (inl e) le = (omega arith, λ d. inl (sym e, refl))
    first (inr more) le =
        absurd (let over = rises_above c.0 n (numbers_of commits) rise.1 more in omega (arith, le, over))
counted_at low (c ∷ commits) n (suc at) rise is below above =
    behind is (below 0 c (omega arith))
    (λ more. counted_at c.0 commits n at rise.1 more (λ k d inside. below (suc k) d (omega (arith, inside)))
    (λ k d from inside. above (suc k) d (omega (arith, from)) (omega (arith, inside))))
  where
    Found : List (ℕ × ℕ) → ℕ → Type 0
    Found cs k = (k < length cs) × ((d : ℕ × ℕ) → IsCounted cs n (get_or cs k d).1)

    behind : (n ≡ c.0) ⊎ IsIn (numbers_of commits) n → c.0 < n → (IsIn (numbers_of commits) n → Found commits at)
        → Found (c ∷ commits) (suc at)
    behind (inl e) lt rest = absurd (omega (arith, e, lt))
    behind (inr more) lt rest = let found = rest more in (omega (arith, found.0), λ d. inr (found.1 d))

-- the same, where a test parts the commits there
pub counted_by : (low : ℕ) (commits : List (ℕ × ℕ)) (n at : ℕ) → Rises low (numbers_of commits)
    → IsIn (numbers_of commits) n → at ≤ length commits
    → IsPartitionPoint (λ (c : ℕ × ℕ). ltb c.0 n ≡ true) (λ (c : ℕ × ℕ). ltb c.0 n ≡ false) commits at
    → (at < length commits) × ((d : ℕ × ℕ) → IsCounted commits n (get_or commits at d).1)
counted_by low commits n at rise is le point =
    counted_at low commits n at rise is
    (λ k d lt. ltb-true (get_or commits k d).0 n (point.0 k d (omega arith) lt))
    (λ k d from lt. ltb-false (get_or commits k d).0 n (point.1 k d from lt))

each_above : (low : ℕ) (commits : List (ℕ × ℕ)) (k : ℕ) (d : ℕ × ℕ) → Rises low (numbers_of commits)
    → k < length commits → low < (get_or commits k d).0
each_above low [] k d rise inside = absurd (omega (arith, inside))
each_above low (c ∷ commits) zero d rise inside = rise.0
each_above low (c ∷ commits) (suc k) d rise inside =
    let more = each_above c.0 commits k d rise.1 (omega (arith, inside)) in omega (arith, more, rise.0)

-- numbers that rise never fall
pub rise_by : (low : ℕ) (commits : List (ℕ × ℕ)) → Rises low (numbers_of commits)
    → IsNonDecreasingBy (λ (c : ℕ × ℕ). c.0) commits
rise_by low [] rise i j d le inside = absurd (omega (arith, inside))
rise_by low (c ∷ commits) rise zero zero d le inside = omega arith
rise_by low (c ∷ commits) rise zero (suc j) d le inside =
    let over = each_above c.0 commits j d rise.1 (omega (arith, inside)) in omega (arith, over)
rise_by low (c ∷ commits) rise (suc i) zero d le inside = absurd (omega (arith, le))
rise_by low (c ∷ commits) rise (suc i) (suc j) d le inside =
    rise_by c.0 commits rise.1 i j d (omega (arith, le)) (omega (arith, inside))
