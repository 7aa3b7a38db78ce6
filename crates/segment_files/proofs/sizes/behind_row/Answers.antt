use Rattle.std.proofs.Common.{arith}
use Rattle.segment_files.proofs.Rooms.{and_then, as_size, no_room, row_size}
use Rattle.segment_files.proofs.sizes.behind_row.Goals as goal

pub returns : goal.returns
returns c = as_size _ _ _ _ (row_size c.args.item.now) (and_then c.args.room 12 _ c.in_ok-behind.field-0 _ c.in_ok-behind.ensures c.behind_document.ensures)

pub returns-in_err-behind : goal.returns-in_err-behind
returns-in_err-behind c = no_room _ 12 _ _ c.from_residual.ensures c.in_err-behind.ensures (omega (arith, row_size c.args.item.now))
