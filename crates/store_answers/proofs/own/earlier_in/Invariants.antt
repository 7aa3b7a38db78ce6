use Rattle.std.proofs.Common.{◌≡◌, ◌≤◌, take}
use Rattle.segment_core.specs.LiveRows.{live_rows}
use Rattle.store_answers.specs.Own.{born_up_to}
use Rattle.store_answers.proofs.own.earlier_in.Given as goal

abbrev pub invariant-loop-place : goal.invariant-loop-place
invariant-loop-place l = record {
  count : l.count ≡ born_up_to l.base (live_rows (take l.place l.rows) (take l.place l.live.marks));
  few : l.count ≤ l.place;
}
