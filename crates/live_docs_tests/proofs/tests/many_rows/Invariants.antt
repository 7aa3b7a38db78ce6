use Rattle.std.proofs.Common.{◌≡◌, length}
use Rattle.live_docs_tests.proofs.tests.many_rows.Given as goal

abbrev pub invariant-loop-step : goal.invariant-loop-step
invariant-loop-step l = length l.docs.marks ≡ 3000
