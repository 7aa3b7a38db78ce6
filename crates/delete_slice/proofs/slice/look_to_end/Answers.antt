use Rattle.std.proofs.Common.{arith}
use Rattle.delete_queue.proofs.Laws.{learns_on}
use Rattle.delete_slice.proofs.Reading.{learns_same}
use Rattle.delete_slice.proofs.slice.look_to_end.Goals as goal

pub loop-init : goal.loop-init
loop-init c = (c.requires, learns_same c.args.seat.now, omega arith)

pub loop-preserved : goal.loop-preserved
loop-preserved c =
    let before = c.loop.invariant.2 in let load = c.look.ensures.load.count in
    (c.look.ensures.seat, learns_on c.args.seat.now c.loop.seat c.look.new.seat c.loop.invariant.1 c.look.ensures.learns, omega (arith, before, load))

pub loop-smaller : goal.loop-smaller
loop-smaller c =
    let seat = c.look.ensures.seat in let seen = c.in-Entry.ensures.entry.seen in
    let bound = seat.table.1.bound in let seats = seat.table.0.2 in let many = c.args.queue.now.many in let few = c.args.queue.now.few.1 in
    omega (arith, seen, bound, seats, many, few)

pub returns-in-End-clause-learns : goal.returns-in-End-clause-learns
returns-in-End-clause-learns c = learns_on c.args.seat.now c.loop.seat c.look.new.seat c.loop.invariant.1 c.look.ensures.learns

pub returns-in-End-clause-end : goal.returns-in-End-clause-end
returns-in-End-clause-end c =
    let before = c.loop.invariant.2 in let load = c.look.ensures.load.count in let end = c.in-End.ensures.end in
    record { loads = omega (arith, before, load); loaded = end.loaded; whole = end.whole }
