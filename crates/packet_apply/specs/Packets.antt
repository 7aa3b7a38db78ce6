-- What a packet makes of a segment's live docs.
use Rattle.std.specs.Prelude.{◌≡◌, ◌≤◌, length}
use Rattle.live_docs.specs.Marks.{Marks}
use Rattle.frozen_packet.specs.declared.packet.Packet.{Packet}
use Rattle.segment_core.specs.Segments.{IsInverted}
use Rattle.segment_core.specs.LiveRows.{Lived, Fated, MarksLater}

-- The packet begins where the segment's live docs end, or before, and doesn't end before they do.
pub record Meets (packet : Packet) (s : Lived) : Type 0 where
  pub after : packet.after ≤ s.live.applied
  pub upto : s.live.applied ≤ packet.upto

-- Live docs made of a segment's own by a packet: all up to the packet's end is in them. No row was
-- brought back, and numbers were only set. Where the segment's postings are the inversion of its
-- rows, the live rows are the fates of the live rows before, under what is numbered above the
-- segment's applied number of the operations that the packet stands for.
pub record Applied (packet : Packet) (s : Lived) (made : Marks) : Type 0 where
  pub applied : made.applied ≡ packet.upto
  pub rows : length made.marks ≡ length s.segment.rows
  pub later : MarksLater s.live.marks made.marks
  pub fates : IsInverted s.segment → Fated s.live.applied packet.updates s.segment.rows s.live.marks made.marks
