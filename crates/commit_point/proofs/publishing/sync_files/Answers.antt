use Rattle.std.proofs.Common.{rules}
use Rattle.ix_outside.specs.declared.step.Step.TheVariants.{Synced}
use Rattle.commit_point.specs.Publishing.{File}
use Rattle.commit_point.proofs.PutFiles.{one_fails, one_more}
use Rattle.commit_point.proofs.publishing.sync_files.Goals as goal

pub returns-in-Err-clause-disk : goal.returns-in-Err-clause-disk
returns-in-Err-clause-disk g c =
    one_fails (λ (f : File). Synced f.0) c.args.files.now c.loop-file.file-index c.file-item.result c.in-Err.fault _ (g.S.Store.disk c.loop-file.store) _ c.loop-file-test.true c.file-item.is
    c.loop-file.invariant.disk c.in-Err.ensures.disk

pub loop-file-preserved : goal.loop-file-preserved
loop-file-preserved g c = record {
  disk = one_more (λ (f : File). Synced f.0) c.args.files.now c.loop-file.file-index c.file-item.result _ (g.S.Store.disk c.loop-file.store) _ c.loop-file-test.true c.file-item.is
      c.loop-file.invariant.disk c.in-Ok.ensures.disk;
  later = search rules;
}
