use Rattle.std.proofs.Common.{◌≡◌, ◌<◌, ◌^◌, ◌++◌, length, take}
use Rattle.std.specs.List.{flat_map, AllByRecursion}
use Rattle.ix_base.specs.Spelling.{be32}
use Rattle.ix_base.specs.declared.spots.Spot.{Spot}
use Rattle.segment_files.proofs.put_places.put_posting.Given as goal

abbrev pub invariant-loop-spot : goal.invariant-loop-spot
invariant-loop-spot l = record {
  bytes : l.out.items ≡ l.fn.out.items ++ ((be32 l.row ++ be32 (length l.run)) ++ flat_map (λ (spot : Spot). be32 spot.position) (take l.spot-index l.run));
  fits : AllByRecursion (λ (spot : Spot). spot.position < 2 ^ 32) (take l.spot-index l.run);
}
