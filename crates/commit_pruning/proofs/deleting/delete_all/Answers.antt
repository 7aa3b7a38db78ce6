use Rattle.std.proofs.Common.{[], ◌∷◌, map}
use Rattle.ix_outside.specs.declared.step.Step.TheVariants.{Deleted, Settled}
use Rattle.commit_pruning.proofs.Halting.{told_late, told_early, told_one}
use Rattle.commit_pruning.proofs.deleting.delete_all.Goals as goal

pub returns-in-Ok-clause-disk : goal.returns-in-Ok-clause-disk
returns-in-Ok-clause-disk g c = told_late (map Deleted c.args.names.now) (Settled ∷ []) _ _ _ c.sync_all.result c.in-Ok.ensures.disk (told_one Settled _ _ c.sync_all.result c.sync_all.ensures.disk)

pub returns-in-Err-clause-disk : goal.returns-in-Err-clause-disk
returns-in-Err-clause-disk g c = told_early (map Deleted c.args.names.now) (Settled ∷ []) _ _ c.in-Err.fault c.in-Err.ensures.disk
