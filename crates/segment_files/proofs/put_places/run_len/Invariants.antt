use Rattle.std.proofs.Common.{◌≡◌, take}
use Rattle.std.specs.List.{AllByRecursion}
use Rattle.ix_base.specs.declared.spots.Spot.{Spot}
use Rattle.segment_files.proofs.put_places.run_len.Given as goal

abbrev pub invariant-loop-i : goal.invariant-loop-i
invariant-loop-i l = AllByRecursion (λ (spot : Spot). spot.row ≡ l.row) (take l.i l.spots)
