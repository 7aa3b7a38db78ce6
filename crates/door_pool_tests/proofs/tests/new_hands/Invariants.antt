use Rattle.std.proofs.Common.{◌≡◌, ◌≤◌, All, [], length}
use Rattle.door_pool_tests.proofs.tests.new_hands.Given as goal

abbrev pub invariant-loop-number : goal.invariant-loop-number
invariant-loop-number l = record {
  within : l.number ≤ l.count;
  count : length l.hands.items ≡ l.number;
  fresh : All (λ n. n.lines.items ≡ []) l.hands.items;
}
