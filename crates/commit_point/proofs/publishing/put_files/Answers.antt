use Rattle.commit_point.specs.Publishing.{syncs_all, writes_all}
use Rattle.commit_point.proofs.Joined.{both_done, stopped}
use Rattle.commit_point.proofs.publishing.put_files.Goals as goal

pub returns-in-Ok-clause-disk : goal.returns-in-Ok-clause-disk
returns-in-Ok-clause-disk g c =
    both_done (writes_all c.args.files.now) (syncs_all c.args.files.now) _ (g.S.Store.disk c.write_files.new.store) _ c.sync_files.result
    c.in-Ok.ensures.disk c.sync_files.ensures.disk

pub returns-in-Err-clause-disk : goal.returns-in-Err-clause-disk
returns-in-Err-clause-disk g c =
    stopped (writes_all c.args.files.now) (syncs_all c.args.files.now) _ _ c.in-Err.ensures.disk
