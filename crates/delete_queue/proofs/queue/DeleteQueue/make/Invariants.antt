use Rattle.std.proofs.Common.{◌≡◌, ◌+◌, ◌-◌, ◌≤◌, [], length}
use Rattle.std.specs.Vec.{vec_capacity}
use Rattle.queue_rule.specs.Views.{view_of, numbers_from}
use Rattle.delete_queue.specs.Ties.{IsLiveOf, view}
use Rattle.delete_queue.specs.Seats.{base_of, seats_of}
use Rattle.delete_queue.specs.Making.{AreNewFrom}
use Rattle.delete_queue.proofs.queue.DeleteQueue.make.Given as goal

abbrev pub invariant-loop-number : goal.invariant-loop-number
invariant-loop-number l = IsLiveOf l.queue l.first × (view l.first ≡ view_of l.seats 0 (numbers_from l.number (l.seats - l.number)) []) × AreNewFrom l.queue 1 l.row.items × (length l.row.items + 1 ≡ l.number) × (base_of l.queue ≡ l.base) × (seats_of l.queue ≡ l.seats) × (l.seats ≤ vec_capacity l.row)
