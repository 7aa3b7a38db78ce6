use Rattle.std.proofs.Common.{◌∙◌}
use Rattle.index_writer.proofs.Taking.{padded}
use Rattle.index_writer.proofs.end.pad.Goals as goal

pub loop-at-preserved : goal.loop-at-preserved
loop-at-preserved c = c.in_ok-push.ensures.ok ∙ padded c.args.written.now c.loop-at.written c.loop-at._at c.loop-at.invariant
