-- Lists of which some elements are chosen.
use Rattle.std.proofs.Common.{◌≡◌, List, [], ◌∷◌, Bool, true, false, cond, map, refl, ap}
use Rattle.std.specs.List.{filter, AllByRecursion}

module _ {X : Type 0} where
  -- the order of two filters doesn't matter
  pub filters_commute : (p q : X → Bool) (xs : List X) → filter p (filter q xs) ≡ filter q (filter p xs)
  filters_commute p q [] = refl
  filters_commute p q (x ∷ xs) = by_tests (p x) (q x) refl refl (filters_commute p q xs)
    where
      by_tests : (a b : Bool) → p x ≡ a → q x ≡ b → filter p (filter q xs) ≡ filter q (filter p xs)
          → filter p (cond b (x ∷ filter q xs) (filter q xs)) ≡ filter q (cond a (x ∷ filter p xs) (filter p xs))
      by_tests true true ea eb h = rw (ea, eb) (ap (λ (l : List X). x ∷ l) h)
      by_tests true false ea eb h = rw eb h
      by_tests false true ea eb h = rw ea h
      by_tests false false ea eb h = h

  -- a filter of changed elements, where no change alters the test
  pub filter_changed : (p : X → Bool) (f : X → X) → ((x : X) → p (f x) ≡ p x) → (xs : List X)
      → filter p (map f xs) ≡ map f (filter p xs)
  filter_changed p f same [] = refl
  filter_changed p f same (x ∷ xs) = rw (same x) (by_test (p x) (filter_changed p f same xs))
    where
      by_test : (b : Bool) → filter p (map f xs) ≡ map f (filter p xs)
          → cond b (f x ∷ filter p (map f xs)) (filter p (map f xs)) ≡ map f (cond b (x ∷ filter p xs) (filter p xs))
      by_test true h = ap (λ (l : List X). f x ∷ l) h
      by_test false h = h

  -- none passes
  pub filter_none : (p : X → Bool) (xs : List X) → AllByRecursion (λ (x : X). p x ≡ false) xs → filter p xs ≡ []
  filter_none p [] none = refl
  filter_none p (x ∷ xs) none = rw none.0 (filter_none p xs none.1)
