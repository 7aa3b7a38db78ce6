-- How far a merge goes on after a round.
use Rattle.std.specs.Prelude.{ℕ, ◌<◌, ◌≤◌, ◌^◌}

-- A row that is merged so often, each time in one of m segments, is in one of 4,096; and no fewer merges do.
pub record AreLevels (m k : ℕ) : Type 0 where
  pub enough : 4096 ≤ m ^ k
  pub fewest : (j : ℕ) → j < k → m ^ j < 4096
