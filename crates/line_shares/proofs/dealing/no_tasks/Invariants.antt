use Rattle.std.proofs.Common.{◌≡◌, [], length}
use Rattle.std.specs.List.{AllByRecursion}
use Rattle.std.specs.Global.{Vec}
use Rattle.worker_tasks.specs.declared.task.Task.{Task}
use Rattle.line_shares.proofs.dealing.no_tasks.Given as goal

abbrev pub invariant-loop-worker : goal.invariant-loop-worker
invariant-loop-worker l = record {
  count : length l.tasks.items ≡ l.worker;
  none : AllByRecursion (λ (own : Vec Task). own.items ≡ []) l.tasks.items;
}
