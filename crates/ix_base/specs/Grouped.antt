-- Places in rows, one after another, seen as postings.
use Rattle.std.specs.Prelude.{◌≡◌, ℕ, ◌<◌, ◌≤◌, List, [], ◌∷◌, ◌++◌, Bool, true, false, ◌==◌, if◌then◌else◌, AllPairs, All, ◌⊎◌}
use Rattle.std.specs.List.Sorted.{IsNonDecreasingBy}
use Rattle.ix_base.specs.Posted.{posted_at, IsPosting}
use Rattle.ix_base.specs.declared.postings.Posting.{Posting}
use Rattle.ix_base.specs.declared.spots.Spot.{Spot}

-- a row with one position
abbrev pub one : Spot → Posting
one s = record { row = s.row; positions = s.position ∷ [] }

-- a place joins the last posting where that is of its row, and else begins one
abbrev pub joined : Bool → Posting → Spot → List Posting
joined true g s = record { row = g.row; positions = g.positions ++ s.position ∷ [] } ∷ []
joined false g s = g ∷ one s ∷ []

-- postings with one more place at their end
abbrev pub with_spot : List Posting → Spot → List Posting
with_spot [] s = one s ∷ []
with_spot (g ∷ []) s = joined (g.row == s.row) g s
with_spot (g ∷ h ∷ gs) s = g ∷ with_spot (h ∷ gs) s

abbrev pub grouped_from : List Posting → List Spot → List Posting
grouped_from gs [] = gs
grouped_from gs (s ∷ rest) = grouped_from (with_spot gs s) rest

-- the postings of places that are put one after another
abbrev pub grouped : List Spot → List Posting
grouped spots = grouped_from [] spots

-- rows with one more at their end, unless it is the last
abbrev pub with_row : List ℕ → ℕ → List ℕ
with_row [] r = r ∷ []
with_row (q ∷ []) r = if q == r then q ∷ [] else q ∷ r ∷ []
with_row (q ∷ p ∷ rows) r = q ∷ with_row (p ∷ rows) r

-- the position of a place that is in the row
abbrev pub position_in : ℕ → Spot → List ℕ
position_in row s = if s.row == row then s.position ∷ [] else []

-- the positions of those places that are in the row
abbrev pub positions_at : ℕ → List Spot → List ℕ
positions_at row [] = []
positions_at row (s ∷ rest) = position_in row s ++ positions_at row rest

-- the positions in a row: where rows rise, those of the posting that has it
abbrev pub positions_in : ℕ → List Posting → List ℕ
positions_in row [] = []
positions_in row (g ∷ gs) = (if g.row == row then g.positions else []) ++ positions_in row gs

-- rows rise, each has a position at least, and its positions rise
pub record ArePostings (rows : List Posting) : Type 0 where
  pub rise : AllPairs (λ a b. a.row < b.row) rows
  pub each : All IsPosting rows

-- the first place is before the second
abbrev pub IsBefore : Spot → Spot → Type 0
IsBefore a b = (a.row < b.row) ⊎ ((a.row ≡ b.row) × (a.position < b.position))

-- rows don't fall
abbrev pub IsByRow : List Spot → Type 0
IsByRow spots = IsNonDecreasingBy (λ spot. spot.row) spots

-- the places rise, and so do their postings
pub record AreSpots (spots : List Spot) : Type 0 where
  pub rise : AllPairs IsBefore spots
  pub postings : ArePostings (grouped spots)

-- the place comes after all that are there
abbrev pub IsAfter : ℕ → ℕ → List Posting → Type 0
IsAfter row position rows = (r x : ℕ) → posted_at rows r x ≡ true → (r < row) ⊎ ((r ≡ row) × (x < position))

-- the place is the last of those that are there, or comes after them
abbrev pub IsUpto : ℕ → ℕ → List Posting → Type 0
IsUpto row position rows = (r x : ℕ) → posted_at rows r x ≡ true → (r < row) ⊎ ((r ≡ row) × (x ≤ position))
