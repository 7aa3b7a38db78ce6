use Rattle.std.proofs.Common.{◌≡◌, take}
use Rattle.ix_base.proofs.postings.Postings.clone_in.Given as goal

abbrev pub invariant-loop-term : goal.invariant-loop-term
invariant-loop-term l = l.terms.items ≡ take l.term-index l.term-items
