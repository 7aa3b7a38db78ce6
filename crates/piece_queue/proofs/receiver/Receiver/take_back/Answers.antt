use Rattle.piece_queue.proofs.Moves.{merges}
use Rattle.piece_queue.proofs.receiver.Receiver.take_back.Goals as goal

pub absorb-requires-clause-rule : goal.absorb-requires-clause-rule
absorb-requires-clause-rule c =
    let r = c.requires.receiver in
    let s = c.requires.sender in
    merges _ _ _ _ r.takes r.quiet s.puts s.rests s.bare
