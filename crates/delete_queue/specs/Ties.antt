-- A table's seat that is one of a queue, and whose view the rule has told of.
use Rattle.std.specs.Prelude.{◌≡◌, true, []}
use Rattle.atomic_table.specs.declared.shared.Seat.{Seat}
use Rattle.queue_rule.specs.declared.view.View.{View}
use Rattle.queue_rule.specs.Told.{Sound}
use Rattle.delete_queue.specs.declared.queue.DeleteQueue.{DeleteQueue}

abbrev pub TableSeat : Type 0
TableSeat = Seat (Unit {0}) View

-- what a table's seat knows
abbrev pub view : TableSeat → View
view s = s.me.0

-- a seat of this queue's table that is in use
abbrev pub IsLiveOf : DeleteQueue → TableSeat → Type 0
IsLiveOf q s =
    (s.table_id ≡ q.table.shared.table_id) × ((view s).live ≡ true)
    × ((view s).seats ≡ q.table.shared.key) × (s.me.1 ≡ [])

-- and the rule has told what holds of its view
abbrev pub IsTold : DeleteQueue → TableSeat → Type 0
IsTold q s = IsLiveOf q s × Sound (view s)
