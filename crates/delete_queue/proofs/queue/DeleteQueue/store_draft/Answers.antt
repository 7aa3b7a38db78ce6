use Rattle.std.proofs.Common.{arith}
use Rattle.queue_rule.proofs.Telling.{may_draft}
use Rattle.delete_queue.proofs.queue.DeleteQueue.store_draft.Goals as goal

pub store-requires : goal.store-requires
store-requires c = let seat = c.requires.seat in let wide = c.args.self.now.wide in let number = seat.1.number in let high = c.requires.place.high in let same = seat.0.2 in (
  seat.0.0,
  omega (arith, wide, number, high, same),
  may_draft c.args.self.now.table.shared.key c.args.self.now.table.shared.table_id.slots c.args.seat.now.id c.args.seat.now.me.0 c.args.seat.now.me.1 c.args.at c.args.word seat.0.1 c.requires.place.low c.requires.place.next high,
)
