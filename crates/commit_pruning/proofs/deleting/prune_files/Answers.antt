use Rattle.commit_pruning.specs.Deleting.{delete_steps}
use Rattle.commit_pruning.proofs.Halting.{told_late, told_early}
use Rattle.commit_pruning.proofs.deleting.prune_files.Goals as goal

pub returns-in-Ok-clause-disk : goal.returns-in-Ok-clause-disk
returns-in-Ok-clause-disk g c = told_late (delete_steps c.args.gone.now) (delete_steps c.args.rest.now) _ _ _ c.delete_all-in-Ok.result c.in-Ok.ensures.disk c.delete_all-in-Ok.ensures.disk

pub returns-in-Err-clause-disk : goal.returns-in-Err-clause-disk
returns-in-Err-clause-disk g c = told_early (delete_steps c.args.gone.now) (delete_steps c.args.rest.now) _ _ c.in-Err.fault c.in-Err.ensures.disk
