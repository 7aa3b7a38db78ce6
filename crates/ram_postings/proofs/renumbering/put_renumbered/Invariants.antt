use Rattle.std.proofs.Common.{take}
use Rattle.ram_postings.proofs.MovedSpots.{Moved}
use Rattle.ram_postings.proofs.renumbering.put_renumbered.Given as goal

abbrev pub invariant-loop-spot : goal.invariant-loop-spot
invariant-loop-spot l = Moved l.numbers (take l.spot-index l.spots) l.fn.list l.list
