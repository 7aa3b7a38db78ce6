use Rattle.std.proofs.Common.{◌≡◌, ◌≤◌, take, Some}
use Rattle.ix_outside.specs.Disk.{told_files}
use Rattle.ix_outside.specs.Files.{Files}
use Rattle.commit_pruning.proofs.Planned.{AreEntries}
use Rattle.commit_pruning.proofs.planning.entries_of.Given as goal

abbrev pub invariant-loop-number : goal.invariant-loop-number
invariant-loop-number g l = record {
  entries : (files : Files) → told_files (g.S.Store.disk l.fn.store) ≡ Some files → AreEntries files (take l.number-index l.numbers) l.entries.items;
  reads : g.S.Store.disk l.store ≡ g.S.Store.disk l.fn.store;
  later : g.S.Store.fault_count l.fn.store ≤ g.S.Store.fault_count l.store;
}
