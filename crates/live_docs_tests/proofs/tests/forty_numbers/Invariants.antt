use Rattle.std.proofs.Common.{◌≡◌, length}
use Rattle.live_docs_tests.proofs.tests.forty_numbers.Given as goal

abbrev pub invariant-loop-step : goal.invariant-loop-step
invariant-loop-step l = length l.docs.marks ≡ 2
