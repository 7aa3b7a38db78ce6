use Rattle.merge_postings.specs.Tree.{IsLeast}
use Rattle.merge_postings.proofs.keyed.least_of.Given as goal

abbrev pub invariant-loop-place : goal.invariant-loop-place
invariant-loop-place l = IsLeast l.heads l.place l.least
