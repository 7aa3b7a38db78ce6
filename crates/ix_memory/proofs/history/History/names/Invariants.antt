use Rattle.std.proofs.Common.{All, reverse, take}
use Rattle.ix_base.specs.FileNames.{IsFileName}
use Rattle.ix_outside.specs.Files.{Lists}
use Rattle.ix_outside.specs.Disk.{files as files_of}
use Rattle.ix_memory.proofs.history.History.names.Given as goal

abbrev pub invariant-loop-step : goal.invariant-loop-step
invariant-loop-step l = record {
  names : Lists (files_of (reverse (take l.step-index l.step-items))) l.names.items;
  real : All IsFileName l.names.items;
}
