use Rattle.std.proofs.Common.{take}
use Rattle.merge_postings.proofs.Gathering.{AddsSpots}
use Rattle.merge_postings.proofs.gathered.add_spots.Given as goal

abbrev pub invariant-loop-spot : goal.invariant-loop-spot
invariant-loop-spot l = AddsSpots (take l.spot-index l.spots) l.fn.late.items l.late.items
