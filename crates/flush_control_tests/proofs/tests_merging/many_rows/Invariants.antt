use Rattle.flush_control_tests.specs.Told.{IsTold}
use Rattle.flush_control_tests.proofs.tests_merging.many_rows.Given as goal

abbrev pub invariant-loop-at : goal.invariant-loop-at
invariant-loop-at l = IsTold l.told
