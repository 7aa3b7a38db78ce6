use Rattle.std.proofs.Common.{length, arith}
use Rattle.segment_files.proofs.Rooms.{and_then, as_size, no_room, text_size}
use Rattle.segment_files.proofs.sizes.behind_text.Goals as goal

pub returns : goal.returns
returns c = as_size _ _ _ _ (text_size c.args.text.now) (and_then c.args.room 4 (length c.args.text.now) c.in_ok-behind.field-0 _ c.in_ok-behind.ensures c.behind-2.ensures)

pub returns-in_err-behind : goal.returns-in_err-behind
returns-in_err-behind c = no_room _ 4 _ _ c.from_residual.ensures c.in_err-behind.ensures (omega (arith, text_size c.args.text.now))
