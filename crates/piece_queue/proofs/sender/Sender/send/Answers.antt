use Rattle.piece_queue.proofs.Moves.{pushes}
use Rattle.piece_queue.proofs.sender.Sender.send.Goals as goal

pub push_as-requires-clause-rule : goal.push_as-requires-clause-rule
push_as-requires-clause-rule g c = λ n. let s = c.requires.sender in pushes n _ _ _ s.puts s.bare c.requires.worker
