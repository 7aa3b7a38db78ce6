use Rattle.std.proofs.Common.{◌≡◌, ◌≤◌, ◌+◌, ◌++◌, length, drop}
use Rattle.std.specs.Prelude.{vec_capacity}
use Rattle.std.specs.Vec.Iter.{into_iter_items}
use Rattle.frozen_packet.specs.Gathered.{unmarked}
use Rattle.frozen_packet.proofs.gathering.without_marked.Given as goal

abbrev pub invariant-loop-change : goal.invariant-loop-change
invariant-loop-change l = record {
  counted : l.at + length (into_iter_items l.change-iterator) ≡ length l.marks;
  made : l.room.items ++ unmarked (into_iter_items l.change-iterator) (drop l.at l.marks) ≡ unmarked l.fn.changes.items l.marks;
  room : length l.room.items + length (into_iter_items l.change-iterator) ≤ vec_capacity l.room;
}
