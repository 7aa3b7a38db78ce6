use Rattle.std.proofs.Common.{◌≡◌, ◌≤◌, take, map}
use Rattle.ix_outside.specs.Disk.{Told, taken}
use Rattle.ix_outside.specs.declared.step.Step.TheVariants.{Deleted}
use Rattle.commit_pruning.proofs.deleting.delete_each.Given as goal

abbrev pub invariant-loop-name : goal.invariant-loop-name
invariant-loop-name g l = record {
  disk : Told (λ old now. now ≡ taken (map Deleted (take l.name-index l.names)) old) (g.S.Store.disk l.fn.store) (g.S.Store.disk l.store);
  later : g.S.Store.fault_count l.fn.store ≤ g.S.Store.fault_count l.store;
}
