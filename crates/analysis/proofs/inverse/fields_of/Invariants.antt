use Rattle.std.proofs.Common.{◌≡◌, map, take}
use Rattle.ix_base.specs.declared.document.Row.{Row}
use Rattle.analysis.specs.Kept.{AreKept}
use Rattle.analysis.proofs.inverse.fields_of.Given as goal

abbrev pub invariant-loop-row : goal.invariant-loop-row
invariant-loop-row l = record {
  counted : l.number ≡ l.row-index;
  so_far : AreKept (map (λ (row : Row). row.doc) (take l.row-index l.rows)) l.fields.entries;
}
