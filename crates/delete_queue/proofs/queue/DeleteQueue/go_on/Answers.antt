use Rattle.std.proofs.Common.{refl}
use Rattle.delete_queue.proofs.Fields.{may_head, went_on}
use Rattle.delete_queue.proofs.queue.DeleteQueue.go_on.Goals as goal

pub load_linked-seat-requires-clause-place : goal.load_linked-seat-requires-clause-place
load_linked-seat-requires-clause-place c = (may_head c.args.self.now c.args.seat.now c.args.found c.requires.seat, c.requires.seat.room)

pub returns-clause-seat : goal.returns-clause-seat
returns-clause-seat c = went_on c.args.self.now c.args.seat.now _ c.args.found c.requires.seat c.load_linked-seat.ensures.seat c.load_linked-seat.ensures.view refl refl refl refl refl
