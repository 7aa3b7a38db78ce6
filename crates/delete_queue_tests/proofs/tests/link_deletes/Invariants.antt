use Rattle.delete_queue.specs.Seats.{IsSeatOf}
use Rattle.delete_queue_tests.proofs.tests.link_deletes.Given as goal

abbrev pub invariant-loop-number : goal.invariant-loop-number
invariant-loop-number l = IsSeatOf l.queue l.seat
