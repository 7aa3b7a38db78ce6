-- Items that each come after the one before them rise, and items that rise come so.
use Rattle.std.proofs.Common.{zero, suc, List, [], ◌∷◌, arith}
use Rattle.std.specs.List.{All, AllPairs, AllByRecursion}
use Rattle.std.proofs.lemmas.List.Elements.{All-from_recursion}
use Rattle.std.proofs.lemmas.List.Kept.{AllPairs-cons}
use Rattle.ix_base.proofs.ItemLaws.{AllGood}

module _ {X : Type 0} where
  pairs_nil : (R : X → X → Type 0) → AllPairs R []
  pairs_nil R i j d lt in' = absurd (omega arith)

  pairs_head : (R : X → X → Type 0) (x : X) (xs : List X) → AllPairs R (x ∷ xs) → All (R x) xs
  pairs_head R x xs h k d lt = h zero (suc k) d (omega arith) (omega arith)

  pairs_tail : (R : X → X → Type 0) (x : X) (xs : List X) → AllPairs R (x ∷ xs) → AllPairs R xs
  pairs_tail R x xs h i j d lt in' = h (suc i) (suc j) d (omega arith) (omega arith)

  all_onto : (P Q : X → Type 0) (xs : List X) → ((x : X) → P x → Q x) → AllByRecursion P xs → AllByRecursion Q xs
  all_onto P Q [] f all = tt
  all_onto P Q (x ∷ xs) f all = (f x all.0, all_onto P Q xs f all.1)

module _ {X S : Type 0} (R : X → X → Type 0) (comes : S → X → Type 0) (leaves : X → S) where
  all_after : ((a b c : X) → R a b → R b c → R a c) → ((a b : X) → comes (leaves a) b → R a b) → (x : X) (xs : List X) → AllGood comes leaves (leaves x) xs → AllByRecursion (R x) xs
  all_after trans is x [] all = tt
  all_after trans is x (y ∷ ys) all = (is x y all.0, all_onto (R y) (R x) ys (λ z h. trans x y z (is x y all.0) h) (all_after trans is y ys all.1))

  pub rises : ((a b c : X) → R a b → R b c → R a c) → ((a b : X) → comes (leaves a) b → R a b) → (s : S) (xs : List X) → AllGood comes leaves s xs → AllPairs R xs
  rises trans is s [] all = pairs_nil R
  rises trans is s (x ∷ xs) all = AllPairs-cons R x xs (All-from_recursion (R x) xs (all_after trans is x xs all.1)) (rises trans is (leaves x) xs all.1)

  chained : ((a b : X) → R a b → comes (leaves a) b) → (x : X) (xs : List X) → AllPairs R (x ∷ xs) → AllGood comes leaves (leaves x) xs
  chained is x [] rise = tt
  chained is x (y ∷ ys) rise = (is x y (pairs_head R x (y ∷ ys) rise zero y (omega arith)), chained is y ys (pairs_tail R x (y ∷ ys) rise))

  pub chain : ((a b : X) → R a b → comes (leaves a) b) → (s : S) (xs : List X) → ((x : X) → comes s x) → AllPairs R xs → AllGood comes leaves s xs
  chain is s [] first rise = tt
  chain is s (x ∷ xs) first rise = (first x, chained is x xs rise)
