use Rattle.std.proofs.Common.{ap, length, arith}
use Rattle.merge_core.proofs.AtMost.{entry_room}
use Rattle.merge_core.proofs.room.behind_most_of.Goals as goal

pub returns : goal.returns
returns c =
    entry_room c.args.entry.now c.as_slice.result.now c.args.room c.in_ok-left.left c.in_ok-left-2.left c.in_ok-left-3.left c.behind_twelves.result c.as_slice.ensures.places
    (omega (arith, c.in_ok-left.ensures))
    (omega (arith, c.in_ok-left-2.ensures, ap length c.as_str.ensures.bytes))
    (omega (arith, c.in_ok-left-3.ensures, ap length c.as_str-2.ensures.bytes))
    c.behind_twelves.ensures
