use Rattle.std.proofs.Common.{◌≤◌, ◌-◌}
use Rattle.delete_queue.specs.Seats.{IsSeatOf, HasSeen, Learns, seats_of, seen_of}
use Rattle.delete_queue.specs.Copying.{HasSpace, Copied}
use Rattle.delete_queue.proofs.queue.DeleteQueue.copy_all.Given as goal

abbrev pub invariant-loop-found : goal.invariant-loop-found
invariant-loop-found l = IsSeatOf l.self l.seat × Learns l.fn.seat l.seat × HasSeen l.seat l.place × (l.place.at ≤ seen_of l.seat) × Copied l.seat l.place.at l.room × HasSpace l.room (seats_of l.self)

abbrev pub decreases-loop-found : goal.decreases-loop-found
decreases-loop-found l = 266272 - l.place.at
