use Rattle.std.proofs.Common.{arith}
use Rattle.queue_rule.proofs.Seating.{joins}
use Rattle.delete_queue.proofs.queue.DeleteQueue.join.Goals as goal

pub join_seat-requires : goal.join_seat-requires
join_seat-requires c = let seat = c.requires.seat in let other = c.requires.other in let wide = c.args.self.now.wide in (
  seat.0,
  other.0.0,
  other.0.3,
  omega (arith, wide),
  joins c.args.self.now.table.shared.key c.args.seat.now.id c.args.seat.now.me.0 c.args.other.id c.args.other.me.0 seat.1 other.0.1 other.1,
)
