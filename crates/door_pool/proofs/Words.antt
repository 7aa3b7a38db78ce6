-- Lists of words and doors, and functions changed at one place.
use Rattle.std.proofs.Common.{◌≡◌, ◌≢◌, ◌⊎◌, ℕ, zero, suc, ◌<◌, eqb, Bool, true, false, if◌then◌else◌, List, [], ◌∷◌, ◌++◌, length, refl, sym, ap, subst, inl, inr, ⊎_elim, arith, eq-eqb, ne_eqb}
use mathlib.Core.Option.{some, some-injective, some-ne-none}
use mathlib.Core.Logic.{dite}
use lib.ListN.{get_elem?}
use native.Mathlib.Decide.{ℕ_discrete}
use Rattle.door_pool.specs.declared.view.DoorSeen.{DoorSeen}
use Rattle.door_pool.specs.Views.{deed_at, taken_at, with_taken}

pub bool_cases : (b : Bool) (P : Type 0) → (b ≡ true → P) → (b ≡ false → P) → P
bool_cases true P yes_case no_case = yes_case refl
bool_cases false P yes_case no_case = no_case refl

-- ---- lists

-- what stands in a list to which one was added is in the list, or the one
pub at_end : {A : Type 0} (l : List A) (a u : A) (j : ℕ) → get_elem? (l ++ a ∷ []) j ≡ some u
    → (get_elem? l j ≡ some u) ⊎ ((j ≡ length l) × (a ≡ u))
at_end [] a u zero got = inr (refl, some-injective a u got)
at_end [] a u (suc j) got = absurd (some-ne-none u (sym got))
at_end (x ∷ l) a u zero got = inl got
at_end (x ∷ l) a u (suc j) got = ⊎_elim (λ o. inl o) (λ t. inr (ap suc t.0, t.1)) (at_end l a u j got)

-- ---- a function changed at one place

pub at : {A : Type 0} → (ℕ → A) → ℕ → A → ℕ → A
at f c a x = if eqb x c then a else f x

pub at_same : {A : Type 0} (f : ℕ → A) (c : ℕ) (a : A) → at f c a c ≡ a
unfolding at
at_same f c a = ap (λ (b : Bool). if b then a else f c) (eq-eqb c c refl)

pub at_other : {A : Type 0} (f : ℕ → A) (c : ℕ) (a : A) (x : ℕ) → x ≢ c → at f c a x ≡ f x
unfolding at
at_other f c a x ne = ap (λ (b : Bool). if b then a else f x) (ne_eqb x c ne)

-- a fact of each place, where it holds of the changed one and of the others
pub at_each : {A : Type 0} (f : ℕ → A) (c : ℕ) (a : A) (P : ℕ → A → Type 0) → P c a → ((x : ℕ) → x ≢ c → P x (f x)) → (x : ℕ)
    → P x (at f c a x)
at_each {A} f c a P here others x =
    dite (ℕ_discrete x c) (λ (e : x ≡ c). subst (λ (y : ℕ). P y (at f c a y)) (sym e) (subst (P c) (sym (at_same f c a)) here))
    (λ (ne : x ≢ c). subst (P x) (sym (at_other f c a x ne)) (others x ne))

-- ---- doors

pub deed_stays : {D : Type 0} (xs : List (DoorSeen D)) (c x : ℕ) → deed_at (with_taken xs c) x ≡ deed_at xs x
deed_stays [] c x = refl
deed_stays (y ∷ xs) zero zero = refl
deed_stays (y ∷ xs) zero (suc x) = refl
deed_stays (y ∷ xs) (suc c) zero = refl
deed_stays (y ∷ xs) (suc c) (suc x) = deed_stays xs c x

pub taken_here : {D : Type 0} (xs : List (DoorSeen D)) (c : ℕ) → c < length xs → taken_at (with_taken xs c) c ≡ true
taken_here [] c lt = absurd (omega (arith, lt))
taken_here (y ∷ xs) zero lt = refl
taken_here (y ∷ xs) (suc c) lt = taken_here xs c (omega (arith, lt))

pub taken_else : {D : Type 0} (xs : List (DoorSeen D)) (c x : ℕ) → x ≢ c → taken_at (with_taken xs c) x ≡ taken_at xs x
taken_else [] c x ne = refl
taken_else (y ∷ xs) zero zero ne = absurd (ne refl)
taken_else (y ∷ xs) zero (suc x) ne = refl
taken_else (y ∷ xs) (suc c) zero ne = refl
taken_else (y ∷ xs) (suc c) (suc x) ne = taken_else xs c x (λ e. ne (ap suc e))

pub doors_many : {D : Type 0} (xs : List (DoorSeen D)) (c : ℕ) → length (with_taken xs c) ≡ length xs
doors_many [] c = refl
doors_many (y ∷ xs) zero = refl
doors_many (y ∷ xs) (suc c) = ap suc (doors_many xs c)
