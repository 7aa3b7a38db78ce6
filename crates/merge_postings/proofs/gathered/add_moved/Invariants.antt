use Rattle.std.proofs.Common.{take}
use Rattle.merge_postings.proofs.Gathering.{AddsMoved}
use Rattle.merge_postings.proofs.gathered.add_moved.Given as goal

abbrev pub invariant-loop-spot : goal.invariant-loop-spot
invariant-loop-spot l = AddsMoved l.numbers (take l.spot-index l.spots) l.fn.late.items l.late.items
