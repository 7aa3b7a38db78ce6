use Rattle.std.proofs.Common.{◌≡◌, map, take}
use Rattle.ix_base.proofs.spots.positions_of.Given as goal

abbrev pub invariant-loop-spot : goal.invariant-loop-spot
invariant-loop-spot l = l.positions.items ≡ map (λ spot. spot.position) (take l.spot-index l.spots)
