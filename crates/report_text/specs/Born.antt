-- The rows that a run adds.
use Rattle.std.specs.Prelude.{ℕ, List, nat_lt}
use Rattle.std.specs.List.{filter}
use Rattle.ix_base.specs.Births.{last_birth}
use Rattle.ix_base.specs.declared.document.Row.{Row}

-- the rows that were added by operations numbered above this
abbrev pub born_after : ℕ → List Row → List Row
born_after base rows = filter (λ (row : Row). nat_lt (last_birth base) row.birth) rows
