use Rattle.std.proofs.Common.{◌≡◌, ◌≤◌, length, true, false}
use Rattle.std.specs.Prelude.{vec_capacity}
use Rattle.door_pool.specs.Passes.{ArePassesAt}
use Rattle.door_pool.proofs.making.split_all.Given as goal

abbrev pub invariant-loop-door : goal.invariant-loop-door
invariant-loop-door g l = record {
  table : l.seat.table_id ≡ l.fn.seat.table_id;
  is_keeper : l.seat.me.0.is_keeper ≡ true;
  no_pass : l.seat.me.0.is_pass ≡ false;
  made : l.seat.me.0.made ≡ l.door;
  doors : l.seat.me.0.doors ≡ l.fn.seat.me.0.doors;
  within : l.door ≤ l.count;
  count : length l.passes.items ≡ l.door;
  room : l.count ≤ vec_capacity l.passes;
  passes : ArePassesAt l.table.shared.table_id l.fn.seat.me.0.doors l.passes.items;
}
