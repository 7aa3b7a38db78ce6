use Rattle.std.proofs.Common.{ℕ}
use Rattle.std.specs.List.{slice_get, filter_map}
use Rattle.merge_core.specs.Choosing.{AreBirths}
use Rattle.merge_core.specs.Merging.{row_count}
use Rattle.merge_core.specs.Reading.{HasSeen, unread}
use Rattle.merge_core.proofs.order.live_origins.Given as goal

abbrev pub invariant-rows : goal.invariant-rows
invariant-rows l = record {
  seen : (count : ℕ) × HasSeen l.order (filter_map (slice_get l.segments) l.places) count;
  births : AreBirths (filter_map (slice_get l.segments) l.places) l.order.next.items l.order.births.items;
}

abbrev pub decreases-rows : goal.decreases-rows
decreases-rows l = row_count (unread l.order.next.items (filter_map (slice_get l.segments) l.places))
