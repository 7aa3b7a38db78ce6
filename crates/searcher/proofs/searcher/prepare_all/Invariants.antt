use Rattle.std.proofs.Common.{◌≡◌}
use Rattle.searcher.proofs.searcher.prepare_all.Given as goal

abbrev pub invariant-loop-at : goal.invariant-loop-at
invariant-loop-at l = l.segments ≡ l.fn.segments
