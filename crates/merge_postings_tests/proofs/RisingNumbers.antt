-- Numbers of rows that rise.
use Rattle.std.proofs.Common.{◌≡◌, ℕ, zero, suc, ◌<◌, Option, Some, None, List, [], ◌∷◌, ◌++◌, length, ◌⊎◌, inl, inr, refl, sym, ap, subst, arith}
use Rattle.merge_postings.specs.Renumbering.{number_of}
use Rattle.merge_postings_tests.specs.Rising.{IsRising}

pub none_rise : (xs : List (Option ℕ)) (next : ℕ) → xs ≡ [] → IsRising next xs
none_rise xs next e = subst (IsRising next) (sym e) (record {
  rise = λ m n r s h k l. absurd (let f : None ≡ Some r = h in cc);
  below = λ m r h. absurd (let f : None ≡ Some r = h in cc);
})

-- a row of a list with one more is one of the list, or the one more
number_push : (xs : List (Option ℕ)) (o : Option ℕ) (m r : ℕ) → number_of (xs ++ o ∷ []) m ≡ Some r → (number_of xs m ≡ Some r) ⊎ ((m ≡ length xs) × (o ≡ Some r))
number_push [] o zero r e = inr (refl, e)
number_push [] o (suc m) r e = absurd (let f : None ≡ Some r = e in cc)
number_push (x ∷ xs) o zero r e = inl e
number_push (x ∷ xs) o (suc m) r e = elim (number_push xs o m r e) [ inl h ↦ inl h | inr h ↦ inr (ap suc h.0, h.1) ]

number_within : (xs : List (Option ℕ)) (m r : ℕ) → number_of xs m ≡ Some r → m < length xs
number_within [] m r e = absurd (let f : None ≡ Some r = e in cc)
number_within (x ∷ xs) zero r e = omega arith
number_within (x ∷ xs) (suc m) r e = omega (arith, number_within xs m r e)

-- one more row, with no number
pub none_more : (xs ys : List (Option ℕ)) (next : ℕ) → IsRising next xs → ys ≡ xs ++ None ∷ [] → IsRising next ys
none_more xs ys next h is = subst (IsRising next) (sym is) (record {
  rise = λ a b r s p q l. h.rise a b r s (was a r (number_push xs None a r p)) (was b s (number_push xs None b s q)) l;
  below = λ a r p. h.below a r (was a r (number_push xs None a r p));
})
  where
    was : (a r : ℕ) → (number_of xs a ≡ Some r) ⊎ ((a ≡ length xs) × (None ≡ Some r)) → number_of xs a ≡ Some r
    was a r (inl k) = k
    was a r (inr k) = absurd (let f : None ≡ Some r = k.1 in cc)

-- one more row, with a number that isn't below the next one
pub more_rise : (xs ys : List (Option ℕ)) (low n next : ℕ) → IsRising low xs → ys ≡ xs ++ Some n ∷ [] → (n < low → ⊥) → n < next → IsRising next ys
more_rise xs ys low n next h is from up = subst (IsRising next) (sym is) (record {
  rise = λ a b r s p q l. go a b r s l (number_push xs (Some n) a r p) (number_push xs (Some n) b s q);
  below = λ a r p. under a r (number_push xs (Some n) a r p);
})
  where
    same : (r : ℕ) → Some n ≡ Some r → n ≡ r
    same r e = cc

    below_n : (a r : ℕ) → number_of xs a ≡ Some r → r < n
    below_n a r k = let f : r < low = h.below a r k in omega (arith, from)

    under : (a r : ℕ) → (number_of xs a ≡ Some r) ⊎ ((a ≡ length xs) × (Some n ≡ Some r)) → r < next
    under a r (inl k) = let f : r < n = below_n a r k in omega arith
    under a r (inr k) = let f : n ≡ r = same r k.1 in omega arith

    go : (a b r s : ℕ) → a < b → (number_of xs a ≡ Some r) ⊎ ((a ≡ length xs) × (Some n ≡ Some r)) → (number_of xs b ≡ Some s) ⊎ ((b ≡ length xs) × (Some n ≡ Some s)) → r < s
    go a b r s l (inl p) (inl q) = h.rise a b r s p q l
    go a b r s l (inl p) (inr q) = let f : r < n = below_n a r p in let g : n ≡ s = same s q.1 in omega arith
    go a b r s l (inr p) (inl q) = let f : b < length xs = number_within xs b s q in let g : a ≡ length xs = p.0 in absurd (omega arith)
    go a b r s l (inr p) (inr q) = let f : a ≡ length xs = p.0 in let g : b ≡ length xs = q.0 in absurd (omega arith)
