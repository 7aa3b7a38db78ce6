use Rattle.std.proofs.Common.{refl}
use Rattle.flush_control.specs.declared.published.Published.{Published}
use Rattle.index_writer.proofs.MergedState.{runs_still}
use Rattle.index_writer.proofs.writer.IndexWriter.merge_step.Goals as goal

pub returns-then-self-clause-kept : goal.returns-then-self-clause-kept
returns-then-self-clause-kept g c =
    let p : Published = c.args.self.now.state.published in runs_still c.args.rows p p.merge refl
