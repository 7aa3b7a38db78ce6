use Rattle.std.proofs.Common.{arith, drop}
use Rattle.queue_rule.proofs.Telling.{may_try}
use Rattle.delete_queue.proofs.Lists.{last_inside}
use Rattle.delete_queue.proofs.queue.DeleteQueue.try_link.Goals as goal

pub compare_exchange-requires : goal.compare_exchange-requires
compare_exchange-requires c = let seat = c.requires.seat in let place = c.requires.place in let v = c.args.seat.now.me.0 in let wide = c.args.self.now.wide in let same = seat.0.2 in
    let last = last_inside v.seats 0 v.seen (omega arith) seat.1.inside in (
      seat.0.0,
      let is = place.0 in omega (arith, wide, last, is, same),
      rw (place.0, place.1) (may_try c.args.self.now.table.shared.key c.args.self.now.table.shared.table_id.slots c.args.seat.now.id v c.args.seat.now.me.1 (drop 1 v.draft) seat.0.1 c.requires.entry.last_open c.requires.entry.draft c.requires.entry.grammar),
    )
