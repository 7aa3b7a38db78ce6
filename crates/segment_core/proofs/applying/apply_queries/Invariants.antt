use Rattle.std.proofs.Common.{◌≡◌, map, length, drop}
use Rattle.frozen_packet.specs.Updates.{query_delete}
use Rattle.segment_core.specs.Segments.{documents}
use Rattle.segment_core.specs.LiveRows.{above, MarksLater}
use Rattle.segment_core.specs.Marking.{marks_after}
use Rattle.segment_core.proofs.applying.apply_queries.Given as goal

abbrev pub invariant-loop-delete : goal.invariant-loop-delete
invariant-loop-delete g l = record {
  marks : g.I.Inverted.inverts l.index (documents l.rows) → marks_after (above l.low (map query_delete (drop l.delete-index l.queries))) l.rows l.live.marks ≡ marks_after (above l.low (map query_delete l.queries)) l.rows l.fn.live.marks;
  long : length l.live.marks ≡ length l.rows;
  applied : l.live.applied ≡ l.fn.live.applied;
  later : MarksLater l.fn.live.marks l.live.marks;
}
