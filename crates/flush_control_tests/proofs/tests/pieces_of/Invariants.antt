use Rattle.std.specs.List.{AllByRecursion}
use Rattle.flush_control.specs.Published.{HasInversion}
use Rattle.flush_control_tests.proofs.tests.pieces_of.Given as goal

abbrev pub invariant-loop-piece : goal.invariant-loop-piece
invariant-loop-piece l = AllByRecursion HasInversion l.pieces.items
