use Rattle.std.proofs.Common.{◌≡◌}
use Rattle.piece_queue.specs.Passes.{IsReceiver, ended_with, made_by}
use Rattle.piece_queue.proofs.receiver.Receiver.empty.Given as goal

abbrev pub invariant-loop : goal.invariant-loop
invariant-loop g l =
    (goal.iterator-loop g).can_next l.iterator' × (goal.iterator-loop g).is_finite l.iterator'
    × IsReceiver l.pieces l.self
    × (made_by l.self ≡ made_by l.fn.self) × (ended_with l.self ≡ ended_with l.fn.self)
