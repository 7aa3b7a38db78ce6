use Rattle.segment_core.specs.Segments.{documents}
use Rattle.std.proofs.Common.{◌≡◌, map, length}
use Rattle.frozen_packet.specs.Updates.{term_delete}
use Rattle.segment_core.specs.LiveRows.{above, MarksLater}
use Rattle.segment_core.specs.Marking.{marks_after}
use Rattle.segment_core.proofs.applying.apply_deletes.Given as goal

abbrev pub invariant-loop-key : goal.invariant-loop-key
invariant-loop-key g l = record {
  marks : g.I.Inverted.inverts l.index (documents l.rows) → marks_after (above l.low (map term_delete l.key-iterator)) l.rows l.live.marks ≡ marks_after (above l.low (map term_delete l.deletes)) l.rows l.fn.live.marks;
  long : length l.live.marks ≡ length l.rows;
  applied : l.live.applied ≡ l.fn.live.applied;
  later : MarksLater l.fn.live.marks l.live.marks;
}
