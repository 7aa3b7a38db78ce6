use Rattle.std.proofs.Common.{◌≡◌, ◌-◌, ◌*◌, ◌∷◌, length}
use Rattle.queue_rule.specs.Views.{draft_start}
use Rattle.delete_queue.specs.Seats.{the_view, own_of, IsSeatOf}
use Rattle.delete_queue.specs.Linking.{Follows}
use Rattle.delete_queue.proofs.queue.DeleteQueue.put.Given as goal

abbrev pub invariant-loop-draft_start : goal.invariant-loop-draft_start
invariant-loop-draft_start l = IsSeatOf l.self l.seat × ((the_view l.seat).draft ≡ 0 ∷ l.words) × (own_of l.seat ≡ own_of l.fn.seat) × Follows (the_view l.fn.seat) (the_view l.seat) × (l.draft_start ≡ draft_start (the_view l.seat))

abbrev pub decreases-loop-draft_start : goal.decreases-loop-draft_start
decreases-loop-draft_start l = 8321 * (the_view l.seat).seats - length (the_view l.seat).seen
