-- A loop that writes the items of a list one after the other.
use Rattle.std.proofs.Common.{◌≡◌, ℕ, zero, suc, ◌+◌, ◌<◌, ◌≤◌, List, [], ◌∷◌, ◌++◌, length, get_or, take, subst, arith, add-one}
use Rattle.std.proofs.lemmas.Grind.{common_steps}
use Rattle.std.proofs.lemmas.List.{take_all}
use Rattle.std.specs.List.{flat_map, AllByRecursion}

pub one_more : {X : Type 0} (f : X → List ℕ) (out head : List ℕ) (xs : List X) (i : ℕ) (x : X) (before now : List ℕ)
    → i < length xs → x ≡ get_or xs i x → before ≡ out ++ (head ++ flat_map f (take i xs)) → now ≡ before ++ f x → now ≡ out ++ (head ++ flat_map f (take (i + 1) xs))
one_more f out head xs i x before now lt is was writes = grind (arith, common_steps)

pub all_done : {X : Type 0} (f : X → List ℕ) (out head : List ℕ) (xs : List X) (i : ℕ) (now : List ℕ)
    → length xs ≤ i → now ≡ out ++ (head ++ flat_map f (take i xs)) → now ≡ out ++ (head ++ flat_map f xs)
all_done f out head xs i now le was = grind (arith, common_steps)

all_suc : {X : Type 0} (P : X → Type 0) (xs : List X) (i : ℕ) (x : X) → i < length xs → x ≡ get_or xs i x → AllByRecursion P (take i xs) → P x → AllByRecursion P (take (suc i) xs)
all_suc P [] i x lt is all one = absurd (omega arith)
all_suc P (y ∷ ys) zero x lt is all one = (subst P is one, tt)
all_suc P (y ∷ ys) (suc i) x lt is all one = (all.0, all_suc P ys i x (omega arith) is all.1 one)

-- what holds of each item so far, and of the next one
pub all_more : {X : Type 0} (P : X → Type 0) (xs : List X) (i : ℕ) (x : X) → i < length xs → x ≡ get_or xs i x → AllByRecursion P (take i xs) → P x → AllByRecursion P (take (i + 1) xs)
all_more P xs i x lt is all one = rw add-one (all_suc P xs i x lt is all one)

pub all_over : {X : Type 0} (P : X → Type 0) (xs : List X) (i : ℕ) → length xs ≤ i → AllByRecursion P (take i xs) → AllByRecursion P xs
all_over P xs i le all = subst (AllByRecursion P) (take_all i xs le) all
