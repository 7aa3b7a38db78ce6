use Rattle.std.proofs.Common.{refl}
use Rattle.delete_queue.proofs.Meeting.{taken}
use Rattle.delete_queue.proofs.queue.DeleteQueue.take_over.Goals as goal

pub returns-clause-taken : goal.returns-clause-taken
returns-clause-taken c = taken c.args.self.now c.args.seat.now c.args.other (record { inner = c.join.new.seat; base = c.args.seat.now.base; progress = c.further-seat.result }) c.requires.seat c.requires.other c.join.ensures.seat c.join.ensures.view refl c.further-seat.ensures
