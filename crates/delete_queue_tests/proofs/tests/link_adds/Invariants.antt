use Rattle.delete_queue.specs.Seats.{IsSeatOf}
use Rattle.delete_queue_tests.proofs.tests.link_adds.Given as goal

abbrev pub invariant-loop : goal.invariant-loop
invariant-loop l = IsSeatOf l.queue l.seat
