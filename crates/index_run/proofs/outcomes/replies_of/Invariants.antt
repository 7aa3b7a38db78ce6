use Rattle.index_run.specs.Replied.{AreRepliesOf}
use Rattle.index_run.proofs.outcomes.replies_of.Given as goal

abbrev pub invariant-loop-share : goal.invariant-loop-share
invariant-loop-share l = AreRepliesOf l.yielded l.told.items
