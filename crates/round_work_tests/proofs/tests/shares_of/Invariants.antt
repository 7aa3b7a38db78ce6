use Rattle.std.specs.List.{AllByRecursion}
use Rattle.round_work_tests.specs.Shares.{CanGoOn}
use Rattle.round_work_tests.proofs.tests.shares_of.Given as goal

abbrev pub invariant-loop-worker : goal.invariant-loop-worker
invariant-loop-worker l = AllByRecursion CanGoOn l.shares.items
