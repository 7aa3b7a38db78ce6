use Rattle.std.proofs.Common.{◌-◌, ◌≤◌}
use Rattle.delete_queue.specs.Seats.{IsSeatOf, Learns, loads_of, seen_of}
use Rattle.delete_slice.proofs.slice.look_to_end.Given as goal

abbrev pub invariant-loop : goal.invariant-loop
invariant-loop l = IsSeatOf l.queue l.seat × Learns l.fn.seat l.seat × (loads_of l.fn.seat ≤ loads_of l.seat)

abbrev pub decreases-loop : goal.decreases-loop
decreases-loop l = 266272 - seen_of l.seat
