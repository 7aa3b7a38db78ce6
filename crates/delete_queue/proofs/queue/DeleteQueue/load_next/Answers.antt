use Rattle.std.proofs.Common.{arith}
use Rattle.queue_rule.proofs.Telling.{may_look}
use Rattle.delete_queue.proofs.Lists.{last_inside}
use Rattle.delete_queue.proofs.queue.DeleteQueue.load_next.Goals as goal

pub load-requires : goal.load-requires
load-requires c = let seat = c.requires.seat in let is = c.requires.place in let v = c.args.seat.now.me.0 in let wide = c.args.self.now.wide in let same = seat.0.2 in
    let last = last_inside v.seats 0 v.seen (omega arith) seat.1.inside in (
      seat.0.0,
      omega (arith, wide, last, is, same),
      rw is (may_look c.args.self.now.table.shared.key c.args.self.now.table.shared.table_id.slots c.args.seat.now.id v c.args.seat.now.me.1 seat.0.1),
    )
