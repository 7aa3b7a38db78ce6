-- Rows whose births rise are given by which rows they are: in one order, and so once only.
use Rattle.std.specs.Prelude.{◌≡◌, ◌⊎◌, ℕ, ◌+◌, ◌<◌, ◌≤◌, List, [], ◌∷◌, length, Contains, IsPermutation}
use Rattle.std.proofs.Common.{zero, suc, get_or, refl, sym, ap, subst, ◌∙◌, inl, inr, arith}
use Rattle.std.proofs.lemmas.List.Sorted.{Contains-permutation, IsPermutation-sym}
use Rattle.ix_base.specs.Births.{first_birth, last_birth}
use Rattle.ix_base.specs.declared.document.Row.{Row}
use Rattle.segment_core.specs.LiveRows.{Lived, all_live}
use Rattle.segment_files.specs.Fits.{BirthsRise}
use Rattle.commit_point.specs.Holds.{AreRowsOf}

abbrev IsIn : Row → List Row → Type 0
IsIn x [] = ⊥
IsIn x (y ∷ ys) = (y ≡ x) ⊎ IsIn x ys

in_from : (xs : List Row) (x : Row) → Contains xs x → IsIn x xs
in_from [] x h = absurd (omega (arith, h.1))
in_from (y ∷ ys) x h = at (λ c. in_from ys x c) h.0 h.1 h.2
  where
    at : (Contains ys x → IsIn x ys) → (k : ℕ) → k < length (y ∷ ys) → get_or (y ∷ ys) k x ≡ x → (y ≡ x) ⊎ IsIn x ys
    at more zero lt e = inl e
    at more (suc k) lt e = inr (more (k, omega arith, e))

in_to : (xs : List Row) (x : Row) → IsIn x xs → Contains xs x
in_to [] x h = absurd h
in_to (y ∷ ys) x (inl e) = (0, omega arith, e)
in_to (y ∷ ys) x (inr h) = let c = in_to ys x h in (suc c.0, omega (arith, c.1), c.2)

in_above : (low s : ℕ) (xs : List Row) (x : Row) → BirthsRise low s xs → IsIn x xs → low ≤ x.birth
in_above low s [] x rise h = absurd h
in_above low s (y ∷ ys) x rise (inl e) = subst (λ (r : Row). low ≤ r.birth) e rise.0
in_above low s (y ∷ ys) x rise (inr h) = omega (arith, rise.0, in_above (y.birth + 1) s ys x rise.2 h)

same_rows : (l m s t : ℕ) (xs ys : List Row) → BirthsRise l s xs → BirthsRise m t ys
    → ((z : Row) → IsIn z xs → IsIn z ys) → ((z : Row) → IsIn z ys → IsIn z xs) → xs ≡ ys
same_rows l m s t [] [] p q there back = refl
same_rows l m s t [] (y ∷ ys) p q there back = absurd (back y (inl refl))
same_rows l m s t (x ∷ xs) [] p q there back = absurd (there x (inl refl))
same_rows l m s t (x ∷ xs) (y ∷ ys) p q there back =
    let first : x ≡ y = head_is (there x (inl refl)) (back y (inl refl)) in
    let rest : xs ≡ ys = same_rows (x.birth + 1) (y.birth + 1) s t xs ys p.2 q.2
    (λ z h. tail_of (in_above (x.birth + 1) s xs z p.2 h) first (there z (inr h)))
    (λ z h. tail_back (in_above (y.birth + 1) t ys z q.2 h) first (back z (inr h))) in
    cc
  where
    head_is : (y ≡ x) ⊎ IsIn x ys → (x ≡ y) ⊎ IsIn y xs → x ≡ y
    head_is (inl e) other = sym e
    head_is (inr h) (inl e) = e
    head_is (inr h) (inr k) = absurd (omega (arith, in_above (y.birth + 1) t ys x q.2 h, in_above (x.birth + 1) s xs y p.2 k))

    tail_of : {z : Row} → x.birth + 1 ≤ z.birth → x ≡ y → (y ≡ z) ⊎ IsIn z ys → IsIn z ys
    tail_of above is (inl e) = absurd (omega (arith, ap (λ (r : Row). r.birth) (is ∙ e)))
    tail_of above is (inr h) = h

    tail_back : {z : Row} → y.birth + 1 ≤ z.birth → x ≡ y → (x ≡ z) ⊎ IsIn z xs → IsIn z xs
    tail_back above is (inl e) = absurd (omega (arith, ap (λ (r : Row). r.birth) (sym is ∙ e)))
    tail_back above is (inr h) = h

pub one_order : (s t : ℕ) (all xs ys : List Row) → IsPermutation all xs → IsPermutation all ys
    → BirthsRise (first_birth 1) (last_birth s) xs → BirthsRise (first_birth 1) (last_birth t) ys → xs ≡ ys
one_order s t all xs ys p q rise rise' =
    same_rows (first_birth 1) (first_birth 1) (last_birth s) (last_birth t) xs ys rise rise'
    (λ z h. in_from ys z (Contains-permutation all ys z q (Contains-permutation xs all z (IsPermutation-sym all xs p) (in_to xs z h))))
    (λ z h. in_from xs z (Contains-permutation all xs z p (Contains-permutation ys all z (IsPermutation-sym all ys q) (in_to ys z h))))

-- segments have one list of rows by rising birth
pub one_rows : (s : ℕ) (segments : List Lived) (a b : List Row) → AreRowsOf s segments a → AreRowsOf s segments b
    → a ≡ b
one_rows s segments a b p q = one_order s s (all_live segments) a b p.merged q.merged p.births q.births
