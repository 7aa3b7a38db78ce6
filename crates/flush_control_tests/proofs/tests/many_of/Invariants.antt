use Rattle.std.specs.List.{AllByRecursion}
use Rattle.flush_control.specs.Published.{HasInversion}
use Rattle.flush_control_tests.proofs.tests.many_of.Given as goal

abbrev pub invariant-loop-number : goal.invariant-loop-number
invariant-loop-number l = AllByRecursion HasInversion l.pieces.items
