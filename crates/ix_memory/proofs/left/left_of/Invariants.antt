use Rattle.std.proofs.Common.{◌≡◌, ◌≤◌, length, reverse, take}
use Rattle.ix_memory.specs.History.{files_left}
use Rattle.ix_memory.proofs.left.left_of.Given as goal

abbrev pub invariant-loop-count : goal.invariant-loop-count
invariant-loop-count l = record {
  within : l.count ≤ length l.made;
  same : files_left l.steps l.bytes (reverse (take l.count l.made)) l.name ≡ files_left l.fn.steps l.fn.bytes (reverse l.made) l.fn.name;
}

abbrev pub decreases-loop-count : goal.decreases-loop-count
decreases-loop-count l = l.count
