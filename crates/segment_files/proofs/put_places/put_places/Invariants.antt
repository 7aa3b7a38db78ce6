use Rattle.std.proofs.Common.{◌≡◌, ◌++◌, length}
use Rattle.std.specs.List.{flat_map, AllByRecursion}
use Rattle.ix_base.specs.Grouped.{grouped}
use Rattle.segment_files.specs.Fits.{PostingFits}
use Rattle.segment_files.specs.Spelling.{posting}
use Rattle.segment_files.proofs.put_places.put_places.Given as goal

abbrev pub invariant-loop-row : goal.invariant-loop-row
invariant-loop-row l = record {
  bytes : l.out.items ++ flat_map posting (grouped l.rest) ≡ l.fn.out.items ++ flat_map posting (grouped l.spots);
  fits : AllByRecursion PostingFits (grouped l.rest) → AllByRecursion PostingFits (grouped l.spots);
}

abbrev pub decreases-loop-row : goal.decreases-loop-row
decreases-loop-row l = length l.rest
