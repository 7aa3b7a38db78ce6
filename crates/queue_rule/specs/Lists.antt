-- Words for lists that the rule uses.
use Rattle.std.specs.Prelude.{◌≡◌, ℕ, ◌+◌, ◌==◌, if◌then◌else◌, nat_lt, List, [], ◌∷◌, ◌++◌, length}

-- P holds of each element
abbrev pub Each : {A : Type 0} → (A → Type 0) → List A → Type 0
Each P [] = Unit {0}
Each P (x ∷ xs) = P x × Each P xs

-- the last element, or a where there is none
abbrev pub last_or : ℕ → List ℕ → ℕ
last_or a [] = a
last_or a (x ∷ xs) = last_or x xs

-- how often n stands in the list
abbrev pub times : ℕ → List ℕ → ℕ
times n [] = 0
times n (x ∷ xs) = (if x == n then 1 else 0) + times n xs

-- the list begins with xs
abbrev pub Starts : List ℕ → List ℕ → Type 0
Starts l xs = (rest : List ℕ) × (l ≡ xs ++ rest)

-- the longer of the two
abbrev pub longer : List ℕ → List ℕ → List ℕ
longer xs ys = if nat_lt (length xs) (length ys) then ys else xs
