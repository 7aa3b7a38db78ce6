-- The different words of a phrase, and where they stand.
use Rattle.std.specs.Prelude.{◌≡◌, ℕ, ◌+◌, ◌<◌, List, [], ◌∷◌, Bool, true, ◌&&◌, length, map, All, Contains, Vec, slice_index_or}
use Rattle.std.specs.Global.{Global}
use Rattle.ix_base.specs.Inversion.{has_number}
use Rattle.ix_base.specs.declared.document.Term.{Term}

-- the numbers of each of some vectors
abbrev pub lists_of : List (Vec ℕ Global) → List (List ℕ)
lists_of lists = map (λ v. v.items) lists

-- the elements at these places, in turn
abbrev pub in_turn : {X : Type 0} → X → List X → List ℕ → List X
in_turn d xs order = map (λ i. slice_index_or xs i d) order

-- The terms at these places, in turn, are the words, and each of the terms is one of the words.
pub record AreWords (terms : List Term) (order : List ℕ) (words : List Term) : Type 0 where
  pub within : All (λ i. i < length terms) order
  pub are : (d : Term) → in_turn d terms order ≡ words
  pub needed : All (Contains words) terms

-- the first list has this position, the second the next, and so on
abbrev pub follow_from : List (List ℕ) → ℕ → Bool
follow_from [] at = true
follow_from (xs ∷ more) at = has_number xs at && follow_from more (at + 1)
