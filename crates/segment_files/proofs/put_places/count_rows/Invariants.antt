use Rattle.std.proofs.Common.{◌≡◌, ◌+◌, ◌≤◌, length}
use Rattle.ix_base.specs.Grouped.{grouped}
use Rattle.segment_files.proofs.put_places.count_rows.Given as goal

abbrev pub invariant-loop-behind : goal.invariant-loop-behind
invariant-loop-behind l = record {
  count : l.count + length (grouped l.rest) ≡ length (grouped l.spots);
  small : l.count + length l.rest ≤ length l.spots;
}

abbrev pub decreases-loop-behind : goal.decreases-loop-behind
decreases-loop-behind l = length l.rest
