use Rattle.piece_queue.proofs.Moves.{begins}
use Rattle.piece_queue.proofs.queue.PieceQueue.make.Goals as goal

pub with_rule-requires : goal.with_rule-requires
with_rule-requires c = begins
