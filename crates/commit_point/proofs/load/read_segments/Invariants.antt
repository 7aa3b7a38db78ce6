use Rattle.std.proofs.Common.{◌≡◌, ◌≤◌}
use Rattle.ix_outside.specs.Disk.{told_files}
use Rattle.std.specs.BTreeSet.{contains}
use Rattle.std.specs.Ordering.{nat_cmp}
use Rattle.ix_outside.specs.Files.{Files, Was}
use Rattle.commit_point.proofs.Loading.{SoFar}
use Rattle.commit_point.proofs.load.read_segments.Given as goal

abbrev pub invariant-loop-entry : goal.invariant-loop-entry
invariant-loop-entry g l = record {
  same : told_files (g.S.Store.disk l.store) ≡ told_files (g.S.Store.disk l.fn.store);
  reads : g.S.Store.disk l.store ≡ g.S.Store.disk l.fn.store;
  later : g.S.Store.fault_count l.fn.store ≤ g.S.Store.fault_count l.store;
  found : (before : Files) → Was (told_files (g.S.Store.disk l.fn.store)) before → SoFar (told_files (g.S.Store.disk l.fn.store)) l.head before l.entry-index (contains nat_cmp l.earlier) l.segments.items;
}
