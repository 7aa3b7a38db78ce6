use Rattle.std.proofs.Common.{arith}
use Rattle.delete_queue.proofs.Numbers.{seen_inside}
use Rattle.delete_slice.specs.Slices.{IsSliceOf}
use Rattle.delete_slice.proofs.Parts.{slices_stay}
use Rattle.delete_slice_tests.proofs.tests.slices_of_a_queue.Goals as goal

pub advance-requires-2-clause-slice : goal.advance-requires-2-clause-slice
advance-requires-2-clause-slice g c = slices_stay c.advance.new.seat c.link_more.new.seat c.start-rest.result c.link_more.ensures.extends c.start-rest.ensures.slice

pub by_seat-requires-2-clause-slice : goal.by_seat-requires-2-clause-slice
by_seat-requires-2-clause-slice g c =
    slices_stay c.advance-2.new.seat c.by_seat.new.seat c.advance-2.new.self c.by_seat.ensures.learns.grows.extends c.advance-2.ensures.slice

pub by_seat-requires-3-clause-slice : goal.by_seat-requires-3-clause-slice
by_seat-requires-3-clause-slice g c =
    let first = c.advance.new.self in let rest = c.advance-2.new.self in let s = c.advance-2.new.seat in
    let linked = slices_stay c.advance.new.seat c.link_more.new.seat first c.link_more.ensures.extends c.advance.ensures.slice in
    let seen = slices_stay c.link_more.new.seat s first c.advance-2.ensures.learns.grows.extends linked in
    let inside = seen_inside s first.from seen.from in let to = c.advance-2.ensures.to in
    let whole : IsSliceOf s (record { from = first.from; to = rest.to }) = record { order = omega (arith, inside, to); from = seen.from; to = c.advance-2.ensures.slice.to } in
    let later = slices_stay s c.by_seat.new.seat (record { from = first.from; to = rest.to }) c.by_seat.ensures.learns.grows.extends whole in
    slices_stay c.by_seat.new.seat c.by_seat-2.new.seat (record { from = first.from; to = rest.to }) c.by_seat-2.ensures.learns.grows.extends later
