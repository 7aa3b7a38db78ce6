use Rattle.delete_queue.proofs.Fields.{saw}
use Rattle.delete_queue.proofs.queue.DeleteQueue.saw_close.Goals as goal

pub returns : goal.returns
returns c = saw c.closes.result c.args.self.now c.args.seat.now c.requires c.closes.ensures
