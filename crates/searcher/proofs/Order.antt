-- A list that rises, and one that doesn't fall and holds the same, are one.
use Rattle.std.proofs.Common.{◌≡◌, ℕ, zero, suc, ◌+◌, ◌<◌, ◌≤◌, Bool, true, false, cond, List, [], ◌∷◌, length, get_or, refl, sym, ap, subst, inl, inr, arith}
use Rattle.std.specs.Prelude.{◌⊎◌, ◌≢◌, ◌==◌, Contains, ⊤}
use Rattle.std.specs.List.{sum_by}
use Rattle.std.specs.List.Sorted.{IsNonDecreasingBy}
use Rattle.std.proofs.lemmas.Bool.{eq-eqb, eqb-true}
use Rattle.std.proofs.lemmas.Bool.Decides.{eqb_tells}
use Rattle.std.proofs.lemmas.List.Sums.{sum_by-cons}

module _ {X : Type 0} (key : X → ℕ) where
  -- the keys rise from some number
  abbrev pub Rises : ℕ → List X → Type 0
  Rises low [] = ⊤
  Rises low (x ∷ xs) = (low ≤ key x) × Rises (key x + 1) xs

  -- the keys don't fall from some number
  abbrev pub Climbs : ℕ → List X → Type 0
  Climbs low [] = ⊤
  Climbs low (x ∷ xs) = (low ≤ key x) × Climbs (key x) xs

abbrev pub IsIn : {X : Type 0} → X → List X → Type 0
IsIn x [] = ⊥
IsIn x (y ∷ ys) = (y ≡ x) ⊎ IsIn x ys

pub in_from : {X : Type 0} (xs : List X) (x : X) → Contains xs x → IsIn x xs
in_from [] x h = absurd (omega (arith, h.1))
in_from {X} (y ∷ ys) x h = at (λ c. in_from ys x c) h.0 h.1 h.2
  where
    at : (Contains ys x → IsIn x ys) → (k : ℕ) → k < length (y ∷ ys) → get_or (y ∷ ys) k x ≡ x → (y ≡ x) ⊎ IsIn x ys
    at more zero lt e = inl e
    at more (suc k) lt e = inr (more (k, omega arith, e))

pub in_to : {X : Type 0} (xs : List X) (x : X) → IsIn x xs → Contains xs x
in_to [] x h = absurd h
in_to (y ∷ ys) x (inl e) = (0, omega arith, e)
in_to (y ∷ ys) x (inr h) = let c = in_to ys x h in (suc c.0, omega (arith, c.1), c.2)

rise_above : {X : Type 0} (key : X → ℕ) (low : ℕ) (xs : List X) (x : X) → Rises key low xs → IsIn x xs → low ≤ key x
rise_above key low [] x rise h = absurd h
rise_above key low (y ∷ ys) x rise (inl e) = subst (λ r. low ≤ key r) e rise.0
rise_above key low (y ∷ ys) x rise (inr h) = omega (arith, rise.0, rise_above key (key y + 1) ys x rise.1 h)

climb_above : {X : Type 0} (key : X → ℕ) (low : ℕ) (xs : List X) (x : X) → Climbs key low xs → IsIn x xs → low ≤ key x
climb_above key low [] x rise h = absurd h
climb_above key low (y ∷ ys) x rise (inl e) = subst (λ r. low ≤ key r) e rise.0
climb_above key low (y ∷ ys) x rise (inr h) = omega (arith, rise.0, climb_above key (key y) ys x rise.1 h)

-- ---- counts

abbrev pub unit : ℕ → ℕ → ℕ
unit k n = cond (n == k) 1 0

unit_same : (k n : ℕ) → n ≡ k → unit k n ≡ 1
unit_same k n e = rw (eq-eqb n k e)

unit_other : (k n : ℕ) → (n ≡ k → ⊥) → unit k n ≡ 0
unit_other k n differ = by_test (n == k) refl
  where
    by_test : (b : Bool) → n == k ≡ b → unit k n ≡ 0
    by_test true e = absurd (differ (eqb-true n k e))
    by_test false e = rw e

module _ {X : Type 0} (key : X → ℕ) where
  -- how many have this key
  abbrev pub counted : ℕ → List X → ℕ
  counted k xs = sum_by (λ x. unit k (key x)) xs

counted-cons : {X : Type 0} (key : X → ℕ) (k : ℕ) (x : X) (xs : List X) → counted key k (x ∷ xs) ≡ unit k (key x) + counted key k xs
counted-cons key k x xs = sum_by-cons (λ y. unit k (key y)) x xs

-- what is in is counted
in_counted : {X : Type 0} (key : X → ℕ) (x : X) (xs : List X) → IsIn x xs → 1 ≤ counted key (key x) xs
in_counted key x [] h = absurd h
in_counted key x (y ∷ ys) (inl e) = omega (arith, counted-cons key (key x) y ys, unit_same (key x) (key y) (ap key e))
in_counted key x (y ∷ ys) (inr h) = omega (arith, counted-cons key (key x) y ys, in_counted key x ys h)

-- what is counted doesn't stand above
counted_low : {X : Type 0} (key : X → ℕ) (k low : ℕ) (xs : List X) → Climbs key low xs → 1 ≤ counted key k xs → low ≤ k
counted_low key k low [] climb some = absurd (omega (arith, some))
counted_low key k low (y ∷ ys) climb some = by_test (λ h. counted_low key k (key y) ys climb.1 h) (eqb_tells (key y) k)
  where
    by_test : (1 ≤ counted key k ys → key y ≤ k) → ((key y == k ≡ true) × (key y ≡ k)) ⊎ ((key y == k ≡ false) × (key y ≢ k)) → low ≤ k
    by_test more (inl e) = omega (arith, climb.0, e.1)
    by_test more (inr e) =
        let one : 1 ≤ counted key k ys = omega (arith, some, counted-cons key k y ys, unit_other k (key y) e.1) in
        omega (arith, climb.0, more one)

-- nothing of a key is counted above it
counted_none : {X : Type 0} (key : X → ℕ) (k low : ℕ) (xs : List X) → k < low → Rises key low xs → counted key k xs ≡ 0
counted_none key k low [] lt rise = refl
counted_none key k low (y ∷ ys) lt rise =
    let here = unit_other k (key y) (λ e. omega (arith, rise.0)) in
    omega (arith, counted-cons key k y ys, here, counted_none key k (key y + 1) ys (omega (arith, rise.0)) rise.1)

-- ---- one list

-- Each that stands in the second stands in the first, and of each key both have as many.
pub record AreAlike {X : Type 0} (key : X → ℕ) (xs ys : List X) : Type 0 where
  pub there : (z : X) → IsIn z ys → IsIn z xs
  pub counts : (k : ℕ) → counted key k xs ≡ counted key k ys

heads : {X : Type 0} (key : X → ℕ) (l m : ℕ) (x y : X) (xs ys : List X) → Rises key l (x ∷ xs) → Climbs key m (y ∷ ys) → AreAlike key (x ∷ xs) (y ∷ ys) → x ≡ y
heads {X} key l m x y xs ys rise climb alike = by_place (alike.there y (inl refl))
  where
    first : key y ≤ key x
    first = counted_low key (key x) (key y) (y ∷ ys) (omega arith, climb.1)
        (omega (arith, alike.counts (key x), in_counted key x (x ∷ xs) (inl refl)))

    by_place : (x ≡ y) ⊎ IsIn y xs → x ≡ y
    by_place (inl e) = e
    by_place (inr h) = absurd (omega (arith, first, rise_above key (key x + 1) xs y rise.1 h))

tails : {X : Type 0} (key : X → ℕ) (l : ℕ) (x : X) (xs ys : List X) → Rises key l (x ∷ xs) → AreAlike key (x ∷ xs) (x ∷ ys) → AreAlike key xs ys
tails {X} key l x xs ys rise alike = record { there = there; counts = counts }
  where
    counts : (k : ℕ) → counted key k xs ≡ counted key k ys
    counts k = omega (arith, alike.counts k, counted-cons key k x xs, counted-cons key k x ys)

    there : (z : X) → IsIn z ys → IsIn z xs
    there z h = by_place (alike.there z (inr h))
      where
        by_place : (x ≡ z) ⊎ IsIn z xs → IsIn z xs
        by_place (inl e) =
            absurd (omega (arith, in_counted key z ys h, counts (key z), counted_none key (key z) (key x + 1) xs (omega (arith, ap key e)) rise.1))
        by_place (inr k) = k

pub one_order : {X : Type 0} (key : X → ℕ) (l m : ℕ) (xs ys : List X) → Rises key l xs → Climbs key m ys → AreAlike key xs ys → xs ≡ ys
one_order key l m [] [] rise climb alike = refl
one_order key l m [] (y ∷ ys) rise climb alike = absurd (alike.there y (inl refl))
one_order key l m (x ∷ xs) [] rise climb alike = absurd (omega (arith, in_counted key x (x ∷ xs) (inl refl), alike.counts (key x)))
one_order {X} key l m (x ∷ xs) (y ∷ ys) rise climb alike =
    let first : x ≡ y = heads key l m x y xs ys rise climb alike in
    let rest : AreAlike key xs ys = tails key l x xs ys rise (subst (λ (z : X). AreAlike key (x ∷ xs) (z ∷ ys)) (sym first) alike) in
    let more : xs ≡ ys = one_order key (key x + 1) (key y) xs ys rise.1 climb.1 rest in
    cc

-- what a sort leaves climbs
pub climbs_from : {X : Type 0} (key : X → ℕ) (low : ℕ) (xs : List X) → ((d : X) → 0 < length xs → low ≤ key (get_or xs 0 d)) → IsNonDecreasingBy key xs → Climbs key low xs
climbs_from key low [] first sorted = tt
climbs_from {X} key low (x ∷ xs) first sorted = (
  first x (omega arith),
  climbs_from key (key x) xs (λ d some. sorted 0 1 d (omega arith) (omega arith)) (λ i j d le lt. sorted (suc i) (suc j) d (omega arith) (omega arith)),
)
