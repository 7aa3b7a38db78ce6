use Rattle.std.proofs.Common.{arith}
use Rattle.queue_rule.proofs.Telling.{may_read}
use Rattle.delete_queue.proofs.queue.DeleteQueue.load_linked.Goals as goal

pub load-requires : goal.load-requires
load-requires c = let seat = c.requires.seat in let place = c.requires.place in let wide = c.args.self.now.wide in let high = place.1 in let same = seat.2 in (
  seat.0,
  omega (arith, wide, high, same),
  may_read c.args.self.now.table.shared.key c.args.self.now.table.shared.table_id.slots c.args.seat.now.id c.args.seat.now.me.0 c.args.seat.now.me.1 c.args.at seat.1 place.0,
)
