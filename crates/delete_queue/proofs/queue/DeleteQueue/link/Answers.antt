use Rattle.delete_queue.proofs.Growing.{grown_none}
use Rattle.delete_queue.proofs.queue.DeleteQueue.link.Goals as goal

pub returns-else-put-clause-grows : goal.returns-else-put-clause-grows
returns-else-put-clause-grows c = grown_none c.args.self.now c.args.seat.now c.put.new.seat c.requires.seat c.put.ensures.seat c.put.ensures.follows c.if-put.ensures.put.own
