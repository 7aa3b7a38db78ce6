use Rattle.std.proofs.Common.{reverse, take}
use Rattle.ix_outside.specs.Disk.{files as files_of}
use Rattle.ix_memory.specs.History.{files_left}
use Rattle.ix_memory.specs.Settled.{AllSynced, Fills, are_made}
use Rattle.ix_memory.proofs.history.History.crash.Given as goal

abbrev pub invariant-loop-step : goal.invariant-loop-step
invariant-loop-step l = record {
  files : Fills (are_made (reverse (take l.step-index l.step-items))) (files_left l.steps l.bytes (reverse l.step-items)) (files_of l.left);
  synced : AllSynced l.left;
}
