use Rattle.std.proofs.Common.{◌≡◌, map, take}
use Rattle.segment_core.specs.declared.column.Entry.{Entry}
use Rattle.segment_core.proofs.column.Column.rows_within.Given as goal

abbrev pub invariant-loop-entry : goal.invariant-loop-entry
invariant-loop-entry l = l.rows.items ≡ map (λ (e : Entry). e.row) (take l.entry-index l.entry-items)
