use Rattle.std.proofs.Common.{◌≡◌, ◌≤◌, ◌+◌, ◌-◌, ◌++◌, drop, length}
use Rattle.segment_core.specs.LiveRows.{with_numbers}
use Rattle.searcher.proofs.numbers.merged.Given as goal

abbrev pub invariant-loop-i : goal.invariant-loop-i
invariant-loop-i l = record {
  own : l.i ≤ length l.own;
  set : l.j ≤ length l.set;
  made : l.made.items ++ with_numbers (drop l.j l.set) (drop l.i l.own) ≡ with_numbers l.set l.own;
}

abbrev pub decreases-loop-i : goal.decreases-loop-i
decreases-loop-i l = (length l.own - l.i) + (length l.set - l.j)
