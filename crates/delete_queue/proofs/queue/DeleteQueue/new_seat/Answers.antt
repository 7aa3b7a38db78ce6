use Rattle.delete_queue.proofs.Making.{fresh}
use Rattle.delete_queue.proofs.queue.DeleteQueue.new_seat.Goals as goal

pub returns : goal.returns
returns c = fresh c.args.self.now c.args.inner c.args.number c.requires.0 c.requires.1 c.requires.2
