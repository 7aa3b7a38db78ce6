use Rattle.std.proofs.Common.{get_or, rules}
use Rattle.std.proofs.lemmas.List.{get_or_default}
use Rattle.ix_base.specs.declared.file_name.FileName.{FileName}
use Rattle.ix_base.specs.declared.file_name.FileName.TheVariants.{Commit}
use Rattle.commit_pruning.proofs.Halting.{delete_more, delete_halts}
use Rattle.commit_pruning.proofs.deleting.delete_each.Goals as goal

pub returns-in-Err-clause-disk : goal.returns-in-Err-clause-disk
returns-in-Err-clause-disk g c =
    let name : FileName = get_or c.args.names.now c.loop-name.name-index (Commit 0) in
    delete_halts (Unit {0}) c.args.names.now c.loop-name.name-index name c.in-Err.fault _ (g.S.Store.disk c.loop-name.store) _ c.loop-name-test.true
    (get_or_default c.args.names.now c.loop-name.name-index (Commit 0) name c.loop-name-test.true) c.loop-name.invariant.disk c.in-Err.ensures.disk

pub loop-name-preserved : goal.loop-name-preserved
loop-name-preserved g c =
    let name : FileName = get_or c.args.names.now c.loop-name.name-index (Commit 0) in
    record {
      disk = delete_more c.args.names.now c.loop-name.name-index name _ (g.S.Store.disk c.loop-name.store) _ c.loop-name-test.true
          (get_or_default c.args.names.now c.loop-name.name-index (Commit 0) name c.loop-name-test.true) c.loop-name.invariant.disk c.in-Ok.ensures.disk;
      later = search rules;
    }
