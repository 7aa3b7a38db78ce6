use Rattle.std.proofs.Common.{◌≡◌, ◌<◌, ◌≤◌, ℕ, length}
use Rattle.std.specs.Prelude.{slice_index_or}
use Rattle.frozen_packet.specs.Gathered.{IsSet, AreReplaced}
use Rattle.frozen_packet.specs.declared.updates.Change.{Change}
use Rattle.frozen_packet.proofs.gathering.replaced.Given as goal

-- no delete stands from `since` up to here
abbrev pub invariant-loop-place : goal.invariant-loop-place
invariant-loop-place l = record {
  long : length l.marks.items ≡ length l.changes;
  replaced : AreReplaced l.changes l.marks.items;
  since : (k : ℕ) (d : Change) → l.since ≤ k → k < l.place → IsSet (slice_index_or l.changes k d);
}
