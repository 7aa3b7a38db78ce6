use Rattle.flush_control.specs.Published.{IsPublished}
use Rattle.flush_control_tests.proofs.tests_merging.turns.Given as goal

abbrev pub invariant-loop : goal.invariant-loop
invariant-loop l = IsPublished l.index
