use Rattle.std.proofs.Common.{◌≡◌, ◌-◌, ◌≤◌}
use Rattle.delete_queue.specs.Seats.{IsSeatOf, HasSeen, Knows, Learns, base_of, seen_of}
use Rattle.delete_slice.specs.Taken.{TakesPart}
use Rattle.delete_slice.proofs.slice.Slice.apply.Given as goal

abbrev pub invariant-loop-place : goal.invariant-loop-place
invariant-loop-place l =
    IsSeatOf l.queue l.seat × Learns l.fn.seat l.seat × (seen_of l.seat ≡ seen_of l.fn.seat) × HasSeen l.seat l.place × (l.place.at ≤ l.self.to.at)
    × TakesPart (Knows l.seat) (base_of l.queue) l.self.from.at l.place.at l.fn.updates l.updates

abbrev pub decreases-loop-place : goal.decreases-loop-place
decreases-loop-place l = l.self.to.at - l.place.at
