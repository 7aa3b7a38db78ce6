use Rattle.std.proofs.Common.{rules}
use Rattle.merge_core.specs.Picking.{own_rows}
use Rattle.merge_core.proofs.Summing.{over}
use Rattle.merge_core.proofs.room.behind_all_rows.Goals as goal

pub returns-in_err-left : goal.returns-in_err-left
returns-in_err-left c = over (own_rows c.args.ids.now) c.args.room c.args.segments.now c.loop-segment.segment-index c.segment-item.result c.loop-segment.left _
    c.from_residual.ensures (search rules) (search rules) c.loop-segment.invariant.left c.in_err-left.ensures
