use Rattle.std.proofs.Common.{drop}
use Rattle.merge_postings.proofs.Gathering.{Spread}
use Rattle.merge_postings.proofs.gathered.spots_of.Given as goal

abbrev pub invariant-loop-place : goal.invariant-loop-place
invariant-loop-place l = Spread l.places (drop l.place-index l.places) l.rows
