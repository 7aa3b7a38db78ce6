use Rattle.delete_queue.specs.Seats.{IsSeatOf, Extends}
use Rattle.delete_slice_tests.proofs.tests.link_fives.Given as goal

abbrev pub invariant-loop-number : goal.invariant-loop-number
invariant-loop-number l = IsSeatOf l.queue l.seat × Extends l.fn.seat l.seat
