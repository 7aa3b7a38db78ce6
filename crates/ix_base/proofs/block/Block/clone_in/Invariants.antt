use Rattle.std.proofs.Common.{◌≡◌, take}
use Rattle.ix_base.proofs.block.Block.clone_in.Given as goal

abbrev pub invariant-loop-doc : goal.invariant-loop-doc
invariant-loop-doc l = l.docs.items ≡ take l.doc-index l.doc-items
