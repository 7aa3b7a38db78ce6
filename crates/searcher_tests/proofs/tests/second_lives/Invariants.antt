use Rattle.std.proofs.Common.{◌≡◌, length}
use Rattle.searcher_tests.proofs.tests.second_lives.Given as goal

abbrev pub invariant-loop-number : goal.invariant-loop-number
invariant-loop-number l = length l.live.marks ≡ 2
