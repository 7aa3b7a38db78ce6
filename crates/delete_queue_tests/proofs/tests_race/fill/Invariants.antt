use Rattle.delete_queue.specs.Seats.{IsSeatOf}
use Rattle.delete_queue_tests.proofs.tests_race.fill.Given as goal

abbrev pub invariant-loop-round : goal.invariant-loop-round
invariant-loop-round l = IsSeatOf l.queue l.seat
