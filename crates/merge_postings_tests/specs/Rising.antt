-- Numbers of rows that rise, as far as they were given.
use Rattle.std.specs.Prelude.{◌≡◌, ℕ, ◌<◌, List, Option, Some}
use Rattle.merge_postings.specs.Renumbering.{NumbersRise, number_of}

-- the numbers rise, and each is below the next one
pub record IsRising (next : ℕ) (numbers : List (Option ℕ)) : Type 0 where
  pub rise : NumbersRise numbers
  pub below : (m r : ℕ) → number_of numbers m ≡ Some r → r < next
