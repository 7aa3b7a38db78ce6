use Rattle.delete_queue.proofs.Laws.{extends_same, extends_on}
use Rattle.delete_slice_tests.proofs.tests.link_fives.Goals as goal

pub loop-number-init : goal.loop-number-init
loop-number-init c = (c.requires, extends_same c.args.seat.now)

pub loop-number-preserved : goal.loop-number-preserved
loop-number-preserved c =
    (c.link-linked.ensures.seat, extends_on c.args.seat.now c.loop-number.seat c.link-linked.new.seat c.loop-number.invariant.1 c.link-linked.ensures.grows.extends)
