use Rattle.delete_queue.proofs.Laws.{seen_stays}
use Rattle.delete_queue.proofs.Numbers.{seen_inside}
use Rattle.std.proofs.Common.{arith}
use Rattle.delete_slice.proofs.slice.Slice.advance.Goals as goal

pub returns-clause-slice : goal.returns-clause-slice
returns-clause-slice c =
    let s = c.look_to_end.new.seat in
    let from = seen_stays c.args.seat.now s c.args.self.now.from c.look_to_end.ensures.learns.grows.extends c.requires.slice.from in
    let inside = seen_inside s c.args.self.now.from from in let last = c.last-self.ensures.last in
    record { order = omega (arith, inside, last); from = from; to = c.last-self.ensures.seen }
