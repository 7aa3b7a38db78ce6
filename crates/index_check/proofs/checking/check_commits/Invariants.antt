use Rattle.std.proofs.Common.{◌≡◌, ◌≤◌, Some}
use Rattle.ix_outside.specs.Disk.{told_files}
use Rattle.ix_outside.specs.Files.{Files}
use Rattle.index_check.proofs.Walk.{SoFar}
use Rattle.index_check.proofs.checking.check_commits.Given as goal

abbrev pub invariant-loop-number : goal.invariant-loop-number
invariant-loop-number g l = record {
  found : (files : Files) → told_files (g.S.Store.disk l.fn.store) ≡ Some files → SoFar files l.numbers l.number-index l.heads.items l.earlier;
  reads : g.S.Store.disk l.store ≡ g.S.Store.disk l.fn.store;
  later : g.S.Store.fault_count l.fn.store ≤ g.S.Store.fault_count l.store;
}
