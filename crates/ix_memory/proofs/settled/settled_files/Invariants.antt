use Rattle.std.proofs.Common.{◌≡◌, take}
use Rattle.ix_outside.specs.Disk.{files as files_of}
use Rattle.ix_memory.specs.Settled.{AllSynced, no_files, with_pairs}
use Rattle.ix_memory.proofs.settled.settled_files.Given as goal

abbrev pub invariant-loop-file : goal.invariant-loop-file
invariant-loop-file l = record {
  files : files_of l.history ≡ with_pairs (take l.file-index l.file-items) no_files;
  synced : AllSynced l.history;
}
