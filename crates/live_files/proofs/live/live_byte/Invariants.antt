use Rattle.std.proofs.Common.{◌≡◌, ◌+◌, ◌-◌, ◌≤◌, min, take, drop}
use Rattle.live_files.specs.LiveSpelling.{bit_value, live_bits}
use Rattle.live_files.proofs.live.live_byte.Given as goal

abbrev pub invariant-loop-row : goal.invariant-loop-row
invariant-loop-row l = record {
  last : l.initial.row ≡ l.first + min (l.rows - l.first) 8;
  from : l.first ≤ l.row;
  up_to : l.row ≤ l.initial.row;
  byte : l.byte ≡ bit_value (take (l.initial.row - l.row) (drop l.row (live_bits l.live.marks)));
}

abbrev pub decreases-loop-row : goal.decreases-loop-row
decreases-loop-row l = l.row - l.first
