use Rattle.flush_control_tests.specs.Told.{IsTold}
use Rattle.flush_control_tests.proofs.round.told_of.Given as goal

abbrev pub invariant-loop-number : goal.invariant-loop-number
invariant-loop-number l = IsTold l.told
