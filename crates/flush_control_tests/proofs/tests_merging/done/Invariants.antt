use Rattle.flush_control.specs.Published.{IsPublished}
use Rattle.flush_control_tests.proofs.tests_merging.done.Given as goal

abbrev pub invariant-loop-deed : goal.invariant-loop-deed
invariant-loop-deed g l = IsPublished l.index
