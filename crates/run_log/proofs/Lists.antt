-- What is true of each element of a list, of a filtered list, and of a list in another order.
use Rattle.std.proofs.Common.{◌≡◌, ◌≢◌, ◌⊎◌, ◌∙◌, ℕ, Bool, true, false, cond, eqb, eq-eqb, List, [], ◌∷◌, ◌++◌}
use Rattle.std.proofs.Common.{map, refl, sym, ap, subst, append-nil}
use Rattle.std.proofs.lemmas.List.Elements.{filter-append}
use Rattle.std.specs.List.{AllByRecursion, filter}

-- two numbers are equal, or they are not, and so says the test
abbrev pub Decided : ℕ → ℕ → Type 0
Decided a b = ((eqb a b ≡ true) × (a ≡ b)) ⊎ ((eqb a b ≡ false) × (a ≢ b))

module _ {X : Type 0} where
  pub each_says : (P Q : X → Type 0) (xs : List X) → ((x : X) → P x → Q x) → AllByRecursion P xs → AllByRecursion Q xs
  each_says P Q [] says h = tt
  each_says P Q (x ∷ xs) says h = (says x h.0, each_says P Q xs says h.1)

  pub each_pair : (P Q R : X → Type 0) (xs : List X) → ((x : X) → P x → Q x → R x) → AllByRecursion P xs
      → AllByRecursion Q xs → AllByRecursion R xs
  each_pair P Q R [] says h k = tt
  each_pair P Q R (x ∷ xs) says h k = (says x h.0 k.0, each_pair P Q R xs says h.1 k.1)

  pub each_in_both : (P : X → Type 0) (xs ys : List X) → AllByRecursion P xs → AllByRecursion P ys
      → AllByRecursion P (xs ++ ys)
  each_in_both P [] ys h k = k
  each_in_both P (x ∷ xs) ys h k = (h.0, each_in_both P xs ys h.1 k)

  pub each_in_first : (P : X → Type 0) (xs ys : List X) → AllByRecursion P (xs ++ ys) → AllByRecursion P xs
  each_in_first P [] ys h = tt
  each_in_first P (x ∷ xs) ys h = (h.0, each_in_first P xs ys h.1)

  pub each_in_second : (P : X → Type 0) (xs ys : List X) → AllByRecursion P (xs ++ ys) → AllByRecursion P ys
  each_in_second P [] ys h = h
  each_in_second P (x ∷ xs) ys h = each_in_second P xs ys h.1

  pub each_in_part : (P : X → Type 0) (front part back : List X) → AllByRecursion P (front ++ (part ++ back))
      → AllByRecursion P part
  each_in_part P front part back h = each_in_first P part back (each_in_second P front (part ++ back) h)

  pub each_mapped : {Y : Type 0} (f : Y → X) (P : X → Type 0) (ys : List Y) → AllByRecursion (λ (y : Y). P (f y)) ys
      → AllByRecursion P (map f ys)
  each_mapped f P [] h = tt
  each_mapped f P (y ∷ ys) h = (h.0, each_mapped f P ys h.1)

  pub each_behind : {Y : Type 0} (f : Y → X) (P : X → Type 0) (ys : List Y) → AllByRecursion P (map f ys)
      → AllByRecursion (λ (y : Y). P (f y)) ys
  each_behind f P [] h = tt
  each_behind f P (y ∷ ys) h = (h.0, each_behind f P ys h.1)

  -- ---- filters

  pub each_passed : (p : X → Bool) (P : X → Type 0) (xs : List X) → ((x : X) → p x ≡ true → P x)
      → AllByRecursion P (filter p xs)
  each_passed p P [] says = tt
  each_passed p P (x ∷ xs) says = by_test (p x) refl (each_passed p P xs says)
    where
      by_test : (b : Bool) → p x ≡ b → AllByRecursion P (filter p xs)
          → AllByRecursion P (cond b (x ∷ filter p xs) (filter p xs))
      by_test true e h = (says x e, h)
      by_test false e h = h

  pub each_of_filter : (p : X → Bool) (P : X → Type 0) (xs : List X) → AllByRecursion P xs
      → AllByRecursion P (filter p xs)
  each_of_filter p P [] h = tt
  each_of_filter p P (x ∷ xs) h = by_test (p x) (each_of_filter p P xs h.1)
    where
      by_test : (b : Bool) → AllByRecursion P (filter p xs) → AllByRecursion P (cond b (x ∷ filter p xs) (filter p xs))
      by_test true k = (h.0, k)
      by_test false k = k

  pub filter_pushed : (p : X → Bool) (xs : List X) (x : X) → p x ≡ true
      → filter p (xs ++ x ∷ []) ≡ filter p xs ++ x ∷ []
  filter_pushed p xs x is =
      let last : filter p (x ∷ []) ≡ x ∷ [] = rw is refl in
      filter-append p xs (x ∷ []) ∙ ap (λ (l : List X). filter p xs ++ l) last

  pub filter_passed : (p : X → Bool) (xs : List X) (x : X) → p x ≡ false → filter p (xs ++ x ∷ []) ≡ filter p xs
  filter_passed p xs x is =
      let none : filter p (x ∷ []) ≡ [] = rw is refl in
      filter-append p xs (x ∷ []) ∙ ap (λ (l : List X). filter p xs ++ l) none ∙ append-nil (filter p xs)

  -- what passes p also passes q
  pub filter_twice : (p q : X → Bool) (xs : List X) → ((x : X) → p x ≡ true → q x ≡ true)
      → filter p (filter q xs) ≡ filter p xs
  filter_twice p q [] implies = refl
  filter_twice p q (x ∷ xs) implies = by_tests (q x) (p x) refl refl (filter_twice p q xs implies)
    where
      by_tests : (a c : Bool) → q x ≡ a → p x ≡ c → filter p (filter q xs) ≡ filter p xs
          → filter p (cond a (x ∷ filter q xs) (filter q xs)) ≡ cond c (x ∷ filter p xs) (filter p xs)
      by_tests true true ea ec h = rw ec (ap (λ (l : List X). x ∷ l) h)
      by_tests true false ea ec h = rw ec h
      by_tests false true ea ec h = absurd (let both : false ≡ true = sym ea ∙ implies x ec in cc)
      by_tests false false ea ec h = h

  pub filter_mapped : {Y : Type 0} (f : Y → X) (p : X → Bool) (ys : List Y)
      → filter p (map f ys) ≡ map f (filter (λ (y : Y). p (f y)) ys)
  filter_mapped f p [] = refl
  filter_mapped {Y} f p (y ∷ ys) = by_test (p (f y)) (filter_mapped f p ys)
    where
      by_test : (b : Bool) → filter p (map f ys) ≡ map f (filter (λ (z : Y). p (f z)) ys)
          → cond b (f y ∷ filter p (map f ys)) (filter p (map f ys))
          ≡ map f (cond b (y ∷ filter (λ (z : Y). p (f z)) ys) (filter (λ (z : Y). p (f z)) ys))
      by_test true h = ap (λ (l : List X). f y ∷ l) h
      by_test false h = h

  -- ---- elements that have keys

  -- the elements that have this key
  abbrev pub of_key : (X → ℕ) → ℕ → List X → List X
  of_key key k xs = filter (λ (x : X). eqb (key x) k) xs

  -- what is true of the elements of every key is true of each element
  pub each_by_key : (key : X → ℕ) (P : X → Type 0) (xs : List X) → ((k : ℕ) → AllByRecursion P (of_key key k xs))
      → AllByRecursion P xs
  each_by_key key P [] h = tt
  each_by_key key P (x ∷ xs) h =
      let own : AllByRecursion P (x ∷ of_key key (key x) xs) =
      subst (λ (b : Bool). AllByRecursion P (cond b (x ∷ of_key key (key x) xs) (of_key key (key x) xs)))
      (eq-eqb (key x) (key x) refl) (h (key x)) in
      (own.0, each_by_key key P xs (λ k. by_test k (eqb (key x) k) (h k)))
    where
      by_test : (k : ℕ) (b : Bool) → AllByRecursion P (cond b (x ∷ of_key key k xs) (of_key key k xs))
          → AllByRecursion P (of_key key k xs)
      by_test k true h = h.1
      by_test k false h = h

  -- both lists have the same elements of every key
  pub each_by_keys : (key : X → ℕ) (P : X → Type 0) (xs ys : List X) → ((k : ℕ) → of_key key k xs ≡ of_key key k ys)
      → AllByRecursion P ys → AllByRecursion P xs
  each_by_keys key P xs ys same h =
      each_by_key key P xs
      (λ k. subst (AllByRecursion P) (sym (same k)) (each_of_filter (λ (x : X). eqb (key x) k) P ys h))
