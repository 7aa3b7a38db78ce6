-- How many rows a commit has, as it is told.
use Rattle.std.specs.Prelude.{ℕ, ◌-◌, ◌^◌, List, length, min}
use Rattle.ix_base.specs.declared.document.Row.{Row}

-- the number of rows, or the greatest 64-bit number where there are more: an operation may add 64 of them
abbrev pub doc_count : List Row → ℕ
doc_count rows = min (length rows) (2 ^ 64 - 1)
