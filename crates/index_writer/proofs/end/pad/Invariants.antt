use Rattle.std.proofs.Common.{◌≡◌}
use Rattle.index_writer.specs.Ending.{with_none}
use Rattle.index_writer.proofs.end.pad.Given as goal

abbrev pub invariant-loop-at : goal.invariant-loop-at
invariant-loop-at l = l.written ≡ with_none l.fn.written l._at
