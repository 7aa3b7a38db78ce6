use Rattle.std.proofs.Common.{arith, rules}
use Rattle.segment_files.specs.Spelling.{number_bytes}
use Rattle.segment_files.proofs.Rooms.{held, no_room, over, numbers_size}
use Rattle.segment_files.proofs.sizes.behind_numbers.Goals as goal

pub returns-in_err-left : goal.returns-in_err-left
returns-in_err-left c = no_room _ 8 _ _ c.from_residual.ensures c.in_err-left.ensures (omega (arith, numbers_size c.args.pairs.now))

pub returns-in_err-left-2 : goal.returns-in_err-left-2
returns-in_err-left-2 c = over number_bytes c.args.room c.in_ok-left.left 8 _ c.args.pairs.now c.loop-pair.pair-index c.pair-item.result c.loop-pair.left _
    c.from_residual-in_err-left-2.ensures (search rules) (search rules) (search rules) c.loop-pair.invariant.room c.in_err-left-2.ensures (numbers_size c.args.pairs.now)

pub returns : goal.returns
returns c = held number_bytes c.args.room c.in_ok-left.left 8 _ c.args.pairs.now c.loop-pair.pair-index c.loop-pair.left (search rules) (search rules) c.loop-pair.invariant.room (numbers_size c.args.pairs.now)
