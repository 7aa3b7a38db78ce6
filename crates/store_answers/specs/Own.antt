-- The rows of a commit that an earlier one had already, by their births.
use Rattle.std.specs.Prelude.{ℕ, List, length, nat_le}
use Rattle.std.specs.List.{filter}
use Rattle.ix_base.specs.Births.{last_birth}
use Rattle.ix_base.specs.declared.document.Row.{Row}

-- how many of the rows were added by operations numbered up to this one
abbrev pub born_up_to : ℕ → List Row → ℕ
born_up_to base rows = length (filter (λ (row : Row). nat_le row.birth (last_birth base)) rows)
