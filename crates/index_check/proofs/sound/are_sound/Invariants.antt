use Rattle.std.proofs.Common.{◌≡◌, ◌≤◌, Some, take}
use Rattle.ix_outside.specs.Disk.{told_files}
use Rattle.ix_outside.specs.Files.{Files}
use Rattle.index_check.specs.Known.{AreSound}
use Rattle.index_check.proofs.sound.are_sound.Given as goal

abbrev pub invariant-loop-entry : goal.invariant-loop-entry
invariant-loop-entry g l = record {
  found : (files : Files) → told_files (g.S.Store.disk l.fn.store) ≡ Some files
      → AreSound files l.head.number (take l.entry-index l.head.segments) l.known l.docs;
  reads : g.S.Store.disk l.store ≡ g.S.Store.disk l.fn.store;
  later : g.S.Store.fault_count l.fn.store ≤ g.S.Store.fault_count l.store;
}
