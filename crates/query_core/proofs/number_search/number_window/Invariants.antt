use Rattle.std.proofs.Common.{◌≤◌, ◌-◌, length}
use Rattle.query_core.specs.Answers.{IsRising}
use Rattle.query_core.specs.Finding.{IsNotBefore}
use Rattle.query_core.proofs.number_search.number_window.Given as goal

abbrev pub invariant-loop-at : goal.invariant-loop-at
invariant-loop-at l = record {
  start : l.start ≤ l.low;
  low : l.low ≤ l.at;
  within : l.low ≤ length l.numbers;
  stands : IsRising l.numbers → IsNotBefore l.numbers l.number l.low;
}

abbrev pub decreases-loop-at : goal.decreases-loop-at
decreases-loop-at l = length l.numbers - l.at
