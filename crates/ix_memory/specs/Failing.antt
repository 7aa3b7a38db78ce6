-- Which calls of an object in memory fail.
use Rattle.std.specs.Prelude.{◌≡◌, ◌+◌, ◌-◌, ◌^◌, min, Contains}
use Rattle.ix_memory.specs.declared.failing_calls.FailingCalls.{FailingCalls}

-- the number of the next call is one of those that are to fail
abbrev pub NextFails : FailingCalls → Type 0
NextFails calls = Contains calls.numbers.items (min (calls.made + 1) (2 ^ 64 - 1))

-- one call more was made, and those that are to fail are the same
pub record Counts (old new : FailingCalls) : Type 0 where
  pub made : new.made ≡ min (old.made + 1) (2 ^ 64 - 1)
  pub numbers : new.numbers ≡ old.numbers
