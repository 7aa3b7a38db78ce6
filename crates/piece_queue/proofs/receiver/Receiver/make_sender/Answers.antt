use Rattle.piece_queue.proofs.Moves.{forks}
use Rattle.piece_queue.proofs.receiver.Receiver.make_sender.Goals as goal

pub another-requires-clause-rule : goal.another-requires-clause-rule
another-requires-clause-rule c = let r = c.requires.receiver in forks _ _ r.takes r.quiet
