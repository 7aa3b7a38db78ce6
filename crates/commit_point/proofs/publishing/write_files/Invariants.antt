use Rattle.std.proofs.Common.{◌≡◌, ◌≤◌, take}
use Rattle.ix_outside.specs.Disk.{Told, taken}
use Rattle.commit_point.specs.Publishing.{writes_all}
use Rattle.commit_point.proofs.publishing.write_files.Given as goal

abbrev pub invariant-loop-file : goal.invariant-loop-file
invariant-loop-file g l = record {
  disk : Told (λ old now. now ≡ taken (writes_all (take l.file-index l.files)) old) (g.S.Store.disk l.fn.store) (g.S.Store.disk l.store);
  later : g.S.Store.fault_count l.fn.store ≤ g.S.Store.fault_count l.store;
}
