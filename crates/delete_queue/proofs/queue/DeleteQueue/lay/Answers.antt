use Rattle.std.proofs.Common.{◌∷◌, take}
use Rattle.delete_queue.proofs.Fields.{redrafted}
use Rattle.delete_queue.proofs.queue.DeleteQueue.lay.Goals as goal

pub returns-clause-seat : goal.returns-clause-seat
returns-clause-seat c = let i = c.loop-i.invariant in redrafted c.args.self.now c.args.seat.now c.loop-i.seat (0 ∷ take c.loop-i.i c.args.words.now) c.requires.seat i.0 i.1 i.3 i.4
