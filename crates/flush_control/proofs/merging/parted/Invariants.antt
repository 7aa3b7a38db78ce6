use Rattle.std.proofs.Common.{◌≡◌, ◌<◌, ◌+◌, ◌++◌, length}
use Rattle.std.specs.Prelude.{vec_capacity}
use Rattle.std.specs.Vec.Iter.{into_iter_items}
use Rattle.flush_control.specs.Merging.{without}
use Rattle.flush_control.proofs.merging.parted.Given as goal

abbrev pub invariant-loop-segment : goal.invariant-loop-segment
invariant-loop-segment l = record {
  made : l.room.items ++ without l.ids (into_iter_items l.segment-iterator) ≡ without l.ids l.fn.items.items;
  room : length l.room.items + length (into_iter_items l.segment-iterator) < vec_capacity l.room;
}
