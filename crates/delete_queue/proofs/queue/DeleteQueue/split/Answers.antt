use Rattle.std.proofs.Common.{arith}
use Rattle.queue_rule.proofs.Seating.{splits}
use Rattle.delete_queue.proofs.Lists.{has_first}
use Rattle.delete_queue.proofs.queue.DeleteQueue.split.Goals as goal

pub split_seat-requires : goal.split_seat-requires
split_seat-requires c = let seat = c.requires.seat in let wide = c.args.self.now.wide in let v = c.args.seat.now.me.0 in let m = has_first v.spares c.requires.spares in (
  seat.0,
  omega (arith, wide),
  splits c.args.self.now.table.shared.key c.args.seat.now.id v m.0 m.1 seat.1 m.2,
)
