-- Places of a term, row by row: put behind one another as they are read, and taken from the front as they are written.
use Rattle.std.specs.Prelude.{◌≡◌, ℕ, ◌<◌, List, [], ◌∷◌, ◌++◌, length, map, Result, Ok, Err}
use Rattle.ix_base.specs.Codec.{Fails}
use Rattle.ix_base.specs.Grouped.{grouped}
use Rattle.ix_base.specs.declared.broken.Broken.{Broken}
use Rattle.ix_base.specs.declared.postings.Posting.{Posting}
use Rattle.ix_base.specs.declared.spots.Spot.{Spot}

-- postings, and behind them a row with these positions; without a position the row isn't there
abbrev pub posted_after : List Posting → ℕ → List ℕ → List Posting
posted_after old row [] = old
posted_after old row (x ∷ xs) = old ++ record { row = row; positions = x ∷ xs } ∷ []

-- Positions that were read stand behind the old places, as those of the row.
abbrev pub PutsPositions : {R : Type 0} → (R → List ℕ) → ℕ → List Posting → List Posting
    → Result R Broken → Result (List ℕ × List ℕ) ℕ → Type 0
PutsPositions rest row old new (Ok r) read =
    (xs : List ℕ) × (read ≡ Ok (xs, rest r)) × (new ≡ posted_after old row xs)
PutsPositions rest row old new (Err e) read = Fails e read

-- A posting that was read stands behind the old ones, and its row is returned.
abbrev pub PutsPosting : {R : Type 0} → (R → List ℕ) → (R → ℕ) → List Posting → List Posting
    → Result R Broken → Result (Posting × List ℕ) ℕ → Type 0
PutsPosting rest row old new (Ok r) read =
    (p : Posting) × (read ≡ Ok (p, rest r)) × (p.row ≡ row r) × (new ≡ old ++ p ∷ [])
PutsPosting rest row old new (Err e) read = Fails e read

-- a row with the positions of these places
abbrev pub posting_in : ℕ → List Spot → Posting
posting_in row run = record { row = row; positions = map (λ (s : Spot). s.position) run }

-- The first of the places are in this row: they are its posting, and those behind them are the other ones.
pub record IsFirstRow (spots : List Spot) (row : ℕ) (run behind : List Spot) : Type 0 where
  pub parts : spots ≡ run ++ behind
  pub some : 0 < length run
  pub postings : grouped spots ≡ posting_in row run ∷ grouped behind
