use Rattle.std.proofs.Common.{◌≡◌, take}
use Rattle.segment_core.specs.Columns.{numbers_of, entries_from}
use Rattle.segment_core.proofs.column.Column.of.Given as goal

abbrev pub invariant-loop-row : goal.invariant-loop-row
invariant-loop-row l = l.entries.items ≡ entries_from 0 (numbers_of l.name (take l.row l.rows))
