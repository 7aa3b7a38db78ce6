-- Where a number can stand in a rising list.
use Rattle.std.proofs.Common.{◌≡◌, ℕ, ◌+◌, ◌-◌, ◌<◌, ◌≤◌, List, length, get_or, slice_range, ◌⊎◌, inl, inr, true, sym, ap, ◌∙◌, arith}
use Rattle.std.proofs.lemmas.Bool.{cases_order}
use Rattle.std.proofs.lemmas.List.{get_or_default}
use Rattle.ix_base.specs.Inversion.{has_number}
use Rattle.query_core.specs.Answers.{IsRising}
use Rattle.query_core.specs.Finding.{IsNotBefore, IsWithin}
use Rattle.query_core.proofs.Rising.{has_at, contains, same_bool}
use Rattle.query_core.proofs.Windows.{inside, part_at, in_part}

module _ (xs : List ℕ) (rise : IsRising xs) (x : ℕ) where
  -- what is at a place comes before the number: this stands nowhere up to it
  pub after_less : (at : ℕ) → at < length xs → get_or xs at 0 < x → IsNotBefore xs x (at + 1)
  after_less at within less k lt is = go (cases_order k at)
    where
      go : (k ≡ at) ⊎ ((k < at) ⊎ (at < k)) → at + 1 ≤ k
      go (inl e) = let same : get_or xs k 0 ≡ get_or xs at 0 = ap (λ i. get_or xs i 0) e in absurd (omega arith)
      go (inr (inl below)) = let b : get_or xs k 0 < get_or xs at 0 = rise k at 0 below within in absurd (omega arith)
      go (inr (inr above)) = omega arith

  -- what is at a place comes after the number: this stands before it, if anywhere
  pub before_greater : (at : ℕ) → at < length xs → x < get_or xs at 0 → (k : ℕ) → k < length xs → get_or xs k 0 ≡ x → k < at
  before_greater at within greater k lt is = go (cases_order k at)
    where
      go : (k ≡ at) ⊎ ((k < at) ⊎ (at < k)) → k < at
      go (inl e) = let same : get_or xs k 0 ≡ get_or xs at 0 = ap (λ i. get_or xs i 0) e in absurd (omega arith)
      go (inr (inl below)) = below
      go (inr (inr above)) = let b : get_or xs at 0 < get_or xs k 0 = rise at k 0 above lt in absurd (omega arith)

  -- the number is at a place: it is at no other
  pub at_equal : (at : ℕ) → at < length xs → get_or xs at 0 ≡ x → IsWithin xs x at (at + 1)
  at_equal at within equal k lt is = go (cases_order k at)
    where
      go : (k ≡ at) ⊎ ((k < at) ⊎ (at < k)) → (at ≤ k) × (k < at + 1)
      go (inl e) = (omega arith, omega arith)
      go (inr (inl below)) = let b : get_or xs k 0 < get_or xs at 0 = rise k at 0 below within in absurd (omega arith)
      go (inr (inr above)) = let b : get_or xs at 0 < get_or xs k 0 = rise at k 0 above lt in absurd (omega arith)

module _ (xs : List ℕ) (from to : ℕ) where
  pub part_rises : IsRising xs → IsRising (slice_range xs from to)
  part_rises rise i j d lt within =
      let a : get_or (slice_range xs from to) i d ≡ get_or xs (from + i) d = part_at xs from to i d (omega arith) in
      let b : get_or (slice_range xs from to) j d ≡ get_or xs (from + j) d = part_at xs from to j d within in
      let less : get_or xs (from + i) d < get_or xs (from + j) d = rise (from + i) (from + j) d (omega arith) (inside xs from to j within).1 in
      omega arith

  -- a number that can stand within a part alone is looked for there
  pub has_part : (x : ℕ) → to ≤ length xs → IsWithin xs x from to → has_number (slice_range xs from to) x ≡ has_number xs x
  has_part x end stands = same_bool (has_number (slice_range xs from to) x) (has_number xs x) out back
    where
      out : has_number (slice_range xs from to) x ≡ true → has_number xs x ≡ true
      out h =
          let c = contains (slice_range xs from to) x h in
          has_at xs (from + c.0) x x (inside xs from to c.0 c.1).1 (sym (part_at xs from to c.0 x c.1) ∙ c.2)

      back : has_number xs x ≡ true → has_number (slice_range xs from to) x ≡ true
      back h =
          let c = contains xs x h in
          let bounds = stands c.0 c.1 (get_or_default xs c.0 0 x c.1 ∙ c.2) in
          let place = in_part xs from to c.0 end bounds.0 bounds.1 in
          has_at (slice_range xs from to) (c.0 - from) x x place.0 (part_at xs from to (c.0 - from) x place.0 ∙ ap (λ i. get_or xs i x) place.1 ∙ c.2)
