use Rattle.std.proofs.Common.{◌≡◌, ◌+◌, length}
use Rattle.std.specs.List.{flat_map}
use Rattle.ix_base.specs.Grouped.{grouped}
use Rattle.segment_files.specs.Spelling.{posting}
use Rattle.segment_files.proofs.sizes.behind_places.Given as goal

abbrev pub invariant-loop-run : goal.invariant-loop-run
invariant-loop-run l = record {
  left : l.left + length (flat_map posting (grouped l.spots)) ≡ l.fn.room + length (flat_map posting (grouped l.rest));
}

abbrev pub decreases-loop-run : goal.decreases-loop-run
decreases-loop-run l = length l.rest
