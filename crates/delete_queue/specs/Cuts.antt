-- A list of words cut into entries.
use Rattle.std.specs.Prelude.{ℕ, ◌-◌, ◌<◌, ◌≤◌, List, [], ◌∷◌, length, take, drop, slice_index}

-- the pieces that end at these places; the first of them begins at p
abbrev pub pieces_from : ℕ → List ℕ → List ℕ → List (List ℕ)
pieces_from p [] words = []
pieces_from p (e ∷ ends) words = take (e - p) (drop p words) ∷ pieces_from e ends words

-- each piece has a word or more, and ends within n words
abbrev pub IsCut : List ℕ → ℕ → Type 0
IsCut ends n = (i : ℕ) → i < length ends → (slice_index (0 ∷ ends) i < slice_index ends i) × (slice_index ends i ≤ n)
