use Rattle.piece_queue.proofs.Moves.{learns, pops}
use Rattle.piece_queue.proofs.receiver.Receiver.take.Goals as goal

pub pop_as-requires-clause-rule : goal.pop_as-requires-clause-rule
pop_as-requires-clause-rule g c = let r = c.requires.receiver in (pops _ _ r.takes, learns _ _ r.takes)
