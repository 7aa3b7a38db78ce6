-- Lists that have the elements of each key in the same order have the same elements.
use Rattle.std.proofs.Common.{◌≡◌, ◌≢◌, ◌⊎◌, ◌∙◌, ℕ, Bool, true, false, cond, eqb, eq-eqb, ne_eqb, List, [], ◌∷◌, ◌++◌, length, map, refl, sym, ap, subst, inl, inr, arith, IsPermutation}
use Rattle.std.proofs.lemmas.Bool.Decides.{eqb_tells}
use Rattle.std.proofs.lemmas.List.{length-append, map-append}
use Rattle.std.proofs.lemmas.List.Elements.{filter-append}
use Rattle.std.proofs.lemmas.List.Sorted.{IsPermutation-refl, IsPermutation-cons, IsPermutation-sym, IsPermutation-trans, IsPermutation-middle}
use Rattle.std.specs.List.{filter, AllByRecursion}

-- two numbers are equal, or they are not, and so says the test
abbrev pub Decided : ℕ → ℕ → Type 0
Decided a b = ((eqb a b ≡ true) × (a ≡ b)) ⊎ ((eqb a b ≡ false) × (a ≢ b))

-- The same elements in another order: the first of the one list stands somewhere in the other.
pub data Reordered {X : Type 0} : List X → List X → Type 0 where
  done : Reordered [] []
  next : (x : X) (xs front back : List X) → Reordered xs (front ++ back) → Reordered (x ∷ xs) (front ++ x ∷ back)

pub permuted : {X : Type 0} (xs ys : List X) → Reordered xs ys → IsPermutation xs ys
permuted {X} _ _ done = IsPermutation-refl []
permuted _ _ (next x xs front back rest) =
    IsPermutation-trans _ _ _ (IsPermutation-cons x xs (front ++ back) (permuted xs (front ++ back) rest))
    (IsPermutation-sym _ _ (IsPermutation-middle front x back))

pub reordered_map : {X Y : Type 0} (f : X → Y) (xs ys : List X) → Reordered xs ys → Reordered (map f xs) (map f ys)
reordered_map f _ _ done = done
reordered_map {X} {Y} f _ _ (next x xs front back rest) =
    subst (λ (l : List Y). Reordered (f x ∷ map f xs) l) (sym (map-append f front (x ∷ back)))
    (next (f x) (map f xs) (map f front) (map f back)
    (subst (λ (l : List Y). Reordered (map f xs) l) (map-append f front back) (reordered_map f xs (front ++ back) rest)))

pub reordered_length : {X : Type 0} (xs ys : List X) → Reordered xs ys → length xs ≡ length ys
reordered_length _ _ done = refl
reordered_length _ _ (next x xs front back rest) =
    omega (arith, reordered_length xs (front ++ back) rest, length-append front back, length-append front (x ∷ back))

-- what is true of each element is true of each in another order
pub each_reordered : {X : Type 0} (P : X → Type 0) (xs ys : List X) → Reordered xs ys → AllByRecursion P xs → AllByRecursion P ys
each_reordered P _ _ done all = tt
each_reordered {X} P _ _ (next x xs front back rest) all = put front (each_reordered P xs (front ++ back) rest all.1)
  where
    put : (fs : List X) → AllByRecursion P (fs ++ back) → AllByRecursion P (fs ++ x ∷ back)
    put [] h = (all.0, h)
    put (f ∷ fs) h = (h.0, put fs h.1)

module _ {X : Type 0} (key : X → ℕ) where
  -- the elements that have this key
  abbrev pub of_key : ℕ → List X → List X
  of_key k xs = filter (λ (x : X). eqb (key x) k) xs

  -- the first element of a key, with those before it, of which none has the key, and those behind it
  record FirstOf (k : ℕ) (x : X) (ys : List X) : Type 0 where
    front : List X
    back : List X
    is : ys ≡ front ++ x ∷ back
    none : of_key k front ≡ []

  abbrev first_or : X → List X → X
  first_or d [] = d
  first_or d (x ∷ xs) = x

  abbrev behind : List X → List X
  behind [] = []
  behind (x ∷ xs) = xs

  of_own : (x : X) (xs : List X) → of_key (key x) (x ∷ xs) ≡ x ∷ of_key (key x) xs
  of_own x xs = rw (eq-eqb (key x) (key x) refl) refl

  of_other : (k : ℕ) (x : X) (xs : List X) → key x ≢ k → of_key k (x ∷ xs) ≡ of_key k xs
  of_other k x xs ne = rw (ne_eqb (key x) k ne) refl

  of_append : (k : ℕ) (xs ys : List X) → of_key k (xs ++ ys) ≡ of_key k xs ++ of_key k ys
  of_append k xs ys = filter-append (λ (x : X). eqb (key x) k) xs ys

  first_of : (k : ℕ) (x : X) (xs ys : List X) → of_key k ys ≡ x ∷ xs → FirstOf k x ys
  first_of k x xs [] e = absurd cc
  first_of k x xs (y ∷ ys) e = by (eqb_tells (key y) k) (first_of k x xs ys)
    where
      by : Decided (key y) k → (of_key k ys ≡ x ∷ xs → FirstOf k x ys) → FirstOf k x (y ∷ ys)
      by (inl same) later =
          let here : y ∷ of_key k ys ≡ x ∷ xs =
          subst (λ (b : Bool). cond b (y ∷ of_key k ys) (of_key k ys) ≡ x ∷ xs) same.0 e in
          record { front = []; back = ys; is = ap (λ (l : List X). first_or x l ∷ ys) here; none = refl }
      by (inr other) later =
          let more = later (subst (λ (b : Bool). cond b (y ∷ of_key k ys) (of_key k ys) ≡ x ∷ xs) other.0 e) in
          record {
            front = y ∷ more.front;
            back = more.back;
            is = ap (λ (l : List X). y ∷ l) more.is;
            none = of_other k y more.front other.1 ∙ more.none;
          }

  -- without the first element of the one, and that element of the other
  without_first : (x : X) (xs front back : List X) → of_key (key x) front ≡ []
      → ((k : ℕ) → of_key k (x ∷ xs) ≡ of_key k (front ++ x ∷ back))
      → (k : ℕ) → of_key k xs ≡ of_key k (front ++ back)
  without_first x xs front back none same k = by (eqb_tells (key x) k)
    where
      own : of_key (key x) xs ≡ of_key (key x) (front ++ back)
      own =
          let here : x ∷ of_key (key x) xs ≡ x ∷ of_key (key x) back =
          sym (of_own x xs) ∙ same (key x) ∙ of_append (key x) front (x ∷ back)
          ∙ ap (λ (l : List X). l ++ of_key (key x) (x ∷ back)) none ∙ of_own x back in
          ap behind here
          ∙ sym (of_append (key x) front back ∙ ap (λ (l : List X). l ++ of_key (key x) back) none)

      by : Decided (key x) k → of_key k xs ≡ of_key k (front ++ back)
      by (inl here) = subst (λ (n : ℕ). of_key n xs ≡ of_key n (front ++ back)) here.1 own
      by (inr other) =
          sym (of_other k x xs other.1) ∙ same k ∙ of_append k front (x ∷ back)
          ∙ ap (λ (l : List X). of_key k front ++ l) (of_other k x back other.1) ∙ sym (of_append k front back)

  pub reordered_by_keys : (xs ys : List X) → ((k : ℕ) → of_key k xs ≡ of_key k ys) → Reordered xs ys
  reordered_by_keys [] [] same = done
  reordered_by_keys [] (y ∷ ys) same = absurd (let none : [] ≡ y ∷ of_key (key y) ys = same (key y) ∙ of_own y ys in cc)
  reordered_by_keys (x ∷ xs) ys same =
      let first = first_of (key x) x (of_key (key x) xs) ys (sym (same (key x)) ∙ of_own x xs) in
      subst (λ (l : List X). Reordered (x ∷ xs) l) (sym first.is)
      (next x xs first.front first.back
      (reordered_by_keys xs (first.front ++ first.back)
      (without_first x xs first.front first.back first.none (λ k. same k ∙ ap (of_key k) first.is))))
