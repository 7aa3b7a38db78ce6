-- Lists of addresses.
use Rattle.std.proofs.Common.{◌≡◌, ℕ, ◌+◌, ◌<◌, List, [], ◌∷◌, ◌++◌, length, refl, arith}
use Rattle.queue_rule.specs.Lists.{Each, last_or}
use Rattle.queue_rule.specs.Chain.{start}

-- the last entry seen lies in the table
pub last_inside : (k a : ℕ) (xs : List ℕ) → a < start k → Each (λ b. (0 < b) × (b + 1 < start k)) xs → last_or a xs < start k
last_inside k a [] low h = low
last_inside k a (x ∷ xs) low h = let l = h.0.1 in last_inside k x xs (omega (arith, l)) h.1

-- a list with a first element
pub has_first : (xs : List ℕ) → 0 < length xs → (m : ℕ) × (ms : List ℕ) × (xs ≡ m ∷ ms)
has_first [] h = absurd (omega (arith, h))
has_first (x ∷ xs) h = (x, xs, refl)

pub last_snoc : (a x : ℕ) (xs : List ℕ) → last_or a (xs ++ x ∷ []) ≡ x
last_snoc a x [] = refl
last_snoc a x (y ∷ xs) = last_snoc y x xs
