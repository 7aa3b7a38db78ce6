-- Lists read by `get_elem?`, and what the entries of a seat take.
use Rattle.std.proofs.Common.{◌++◌, ◌≡◌, ◌≢◌, ℕ, zero, suc, ◌+◌, ◌<◌, ◌≤◌, ◌⊎◌, inl, inr, ⊎_elim, List, [], ◌∷◌, map, length, take, set, sym, refl, ap, subst, arith, eq-eqb}
use mathlib.Core.Option.{some, some-injective, some-ne-none}
use lib.ListN.{get_elem?}
use Rattle.queue_rule.specs.declared.view.View.{View}
use Rattle.queue_rule.specs.Lists.{Each}
use Rattle.queue_rule.specs.Chain.{ChainEntry, need, used}
use Rattle.queue_rule.specs.Rule.{total}

module _ {A : Type 0} where
  pub at_inside : (l : List A) (j : ℕ) (a : A) → get_elem? l j ≡ some a → j < length l
  at_inside [] j a e = absurd (some-ne-none a (sym e))
  at_inside (x ∷ xs) zero a e = omega arith
  at_inside (x ∷ xs) (suc j) a e = let h = at_inside xs j a e in omega (arith, h)

  pub all_at : {B : Type 0} (f : A → B) (P : B → Type 0) (l : List A) → ((j : ℕ) (a : A) → get_elem? l j ≡ some a → P (f a)) → Each P (map f l)
  all_at f P [] h = tt
  all_at f P (x ∷ xs) h = (h 0 x refl, all_at f P xs (λ j a e. h (suc j) a e))

  pub all_more : (P Q : A → Type 0) (l : List A) → ((a : A) → P a → Q a) → Each P l → Each Q l
  all_more P Q [] f h = tt
  all_more P Q (x ∷ xs) f h = (f x h.0, all_more P Q xs f h.1)

  pub each_append : (P : A → Type 0) (xs ys : List A) → Each P xs → Each P ys → Each P (xs ++ ys)
  each_append P [] ys h g = g
  each_append P (x ∷ xs) ys h g = (h.0, each_append P xs ys h.1 g)

  -- an element of the second list stands in both together
  pub at_behind : (l m : List A) (i : ℕ) (a : A) → get_elem? m i ≡ some a → (j : ℕ) × (get_elem? (l ++ m) j ≡ some a)
  at_behind [] m i a e = (i, e)
  at_behind (x ∷ l) m i a e = let r = at_behind l m i a e in (suc r.0, r.1)

  -- an element of a list with one more stands before the last place, or is the last one
  pub at_end : (l : List A) (a b : A) (j : ℕ) → get_elem? (l ++ a ∷ []) j ≡ some b → (get_elem? l j ≡ some b) ⊎ ((j ≡ length l) × (a ≡ b))
  at_end [] a b zero h = inr (refl, some-injective a b h)
  at_end [] a b (suc j) h = absurd (some-ne-none b (sym h))
  at_end (x ∷ l) a b zero h = inl h
  at_end (x ∷ l) a b (suc j) h = ⊎_elim (λ o. inl o) (λ t. inr (ap suc t.0, t.1)) (at_end l a b j h)

-- the words of an entry lie below the end of its seat's
pub used_take : (es : List ChainEntry) (j : ℕ) (e : ChainEntry) → get_elem? es j ≡ some e → used e.seat (take j es) + need e ≤ used e.seat es
used_take [] j e h = absurd (some-ne-none e (sym h))
used_take (x ∷ xs) zero e h = let is : x ≡ e = some-injective x e h in
    subst (λ (y : ChainEntry). used y.seat [] + need y ≤ used y.seat (x ∷ xs)) is (rw (eq-eqb x.seat x.seat refl) (omega arith))
used_take (x ∷ xs) (suc j) e h = let i = used_take xs j e h in omega (arith, i)

-- one view's part of a total
pub total_at : (f : View → ℕ) (vs : List View) (i : ℕ) (v : View) → get_elem? vs i ≡ some v → f v ≤ total f vs
total_at f [] i v h = absurd (some-ne-none v (sym h))
total_at f (x ∷ xs) zero v h = let is : f x ≡ f v = ap f (some-injective x v h) in omega (arith, is)
total_at f (x ∷ xs) (suc i) v h = let r = total_at f xs i v h in omega (arith, r)

pub total_two : (f : View → ℕ) (vs : List View) (i j : ℕ) (v w : View) → get_elem? vs i ≡ some v → get_elem? vs j ≡ some w → j ≢ i → f v + f w ≤ total f vs
total_two f [] i j v w h g n = absurd (some-ne-none v (sym h))
total_two f (x ∷ xs) zero zero v w h g n = absurd (n refl)
total_two f (x ∷ xs) zero (suc j) v w h g n = let is : f x ≡ f v = ap f (some-injective x v h) in let r = total_at f xs j w g in omega (arith, is, r)
total_two f (x ∷ xs) (suc i) zero v w h g n = let is : f x ≡ f w = ap f (some-injective x w g) in let r = total_at f xs i v h in omega (arith, is, r)
total_two f (x ∷ xs) (suc i) (suc j) v w h g n = let r = total_two f xs i j v w h g (λ e. n (ap suc e)) in omega (arith, r)

pub total_set : (f : View → ℕ) (vs : List View) (i : ℕ) (v w : View) → get_elem? vs i ≡ some v → total f (set vs i w) + f v ≡ total f vs + f w
total_set f [] i v w h = absurd (some-ne-none v (sym h))
total_set f (x ∷ xs) zero v w h = let is : f x ≡ f v = ap f (some-injective x v h) in omega (arith, is)
total_set f (x ∷ xs) (suc i) v w h = let r = total_set f xs i v w h in omega (arith, r)
