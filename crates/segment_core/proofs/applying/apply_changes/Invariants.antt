use Rattle.std.proofs.Common.{◌≡◌, map, length, drop}
use Rattle.frozen_packet.specs.Updates.{change}
use Rattle.segment_core.specs.Segments.{documents}
use Rattle.segment_core.specs.Columns.{AreColumnsOf}
use Rattle.segment_core.specs.LiveRows.{above, MarksLater}
use Rattle.segment_core.specs.Marking.{marks_after}
use Rattle.segment_core.proofs.applying.apply_changes.Given as goal

abbrev pub invariant-loop-update : goal.invariant-loop-update
invariant-loop-update g l = record {
  marks : g.I.Inverted.inverts l.index (documents l.rows) → marks_after (above l.low (map change (drop l.update-index l.updates))) l.rows l.live.marks ≡ marks_after (above l.low (map change l.updates)) l.rows l.fn.live.marks;
  long : length l.live.marks ≡ length l.rows;
  applied : l.live.applied ≡ l.fn.live.applied;
  later : MarksLater l.fn.live.marks l.live.marks;
  columns : AreColumnsOf l.rows l.columns;
}
