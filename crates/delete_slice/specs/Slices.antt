-- A part of the list that a seat has seen.
use Rattle.std.specs.Prelude.{◌≡◌, ◌<◌, ◌≤◌}
use Rattle.queue_rule.specs.Told.{Whole}
use Rattle.delete_queue.specs.declared.seat.Seat.{Seat}
use Rattle.delete_queue.specs.Seats.{the_view, HasSeen, loads_of, loaded_of}
use Rattle.delete_slice.specs.declared.slice.Slice.{Slice}

-- a slice of what the seat has seen; its end isn't before its beginning
pub record IsSliceOf (s : Seat) (slice : Slice) : Type 0 where
  pub order : slice.from.at ≤ slice.to.at
  pub from : HasSeen s slice.from
  pub to : HasSeen s slice.to

-- the seat made one load or more, and the last of them read 0: it has seen all entries that there are
pub record LooksToEnd (s t : Seat) : Type 0 where
  pub loads : loads_of s < loads_of t
  pub loaded : loaded_of t ≡ 0
  pub whole : Whole (the_view t)
