use Rattle.std.proofs.Common.{◌≡◌, List, subst, take}
use Rattle.std.proofs.lemmas.List.{take_all}
use Rattle.ix_base.specs.declared.spots.Spot.{Spot}
use Rattle.merge_postings.proofs.Gathering.{AddsSpots, adds_spots}
use Rattle.merge_postings.proofs.gathered.add_spots.Goals as goal

pub returns : goal.returns
returns c =
    let all : take c.loop-spot.spot-index c.args.spots.now ≡ c.args.spots.now = take_all c.loop-spot.spot-index c.args.spots.now c.loop-spot-test.false in
    adds_spots c.args.spots.now c.args.late.now.items c.loop-spot.late.items
    (subst (λ (spots : List Spot). AddsSpots spots c.args.late.now.items c.loop-spot.late.items) all c.loop-spot.invariant)
