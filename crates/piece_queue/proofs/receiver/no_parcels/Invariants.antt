use Rattle.std.proofs.Common.{◌≡◌, ◌≤◌, [], map, length}
use Rattle.piece_queue.specs.Views.{parcels_of}
use Rattle.piece_queue.proofs.receiver.no_parcels.Given as goal

abbrev pub invariant-loop : goal.invariant-loop
invariant-loop l =
    (map (λ p. p.items) l.all.items ≡ parcels_of 0 l.counter []) × (l.counter ≤ l.count) × (length l.all.items ≡ l.counter)
