use Rattle.merge_core.specs.Picking.{own_rows}
use Rattle.merge_core.proofs.Summing.{IsLeft}
use Rattle.merge_core.proofs.room.behind_all_rows.Given as goal

abbrev pub invariant-loop-segment : goal.invariant-loop-segment
invariant-loop-segment l = record {
  left : IsLeft (own_rows l.ids) l.fn.room l.segments l.segment-index l.left;
}
