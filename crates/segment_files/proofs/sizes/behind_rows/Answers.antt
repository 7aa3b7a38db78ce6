use Rattle.std.proofs.Common.{arith, rules}
use Rattle.segment_files.specs.Spelling.{row}
use Rattle.segment_files.proofs.Rooms.{over}
use Rattle.segment_files.proofs.sizes.behind_rows.Goals as goal

pub returns-in_err-left : goal.returns-in_err-left
returns-in_err-left c = over row c.args.room c.args.room 0 _ c.args.rows.now c.loop-item.item-index c.item-item.result c.loop-item.left _
    c.from_residual.ensures (search rules) (search rules) (search rules) (omega arith) c.in_err-left.ensures (omega arith)
