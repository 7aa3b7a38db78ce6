use Rattle.std.proofs.Common.{◌≡◌, ◌∷◌, take}
use Rattle.queue_rule.specs.Views.{with_draft, draft_start}
use Rattle.delete_queue.specs.Ties.{IsTold}
use Rattle.delete_queue.specs.Seats.{the_view}
use Rattle.delete_queue.proofs.queue.DeleteQueue.lay.Given as goal

abbrev pub invariant-loop-i : goal.invariant-loop-i
invariant-loop-i l = IsTold l.self l.seat.inner × (the_view l.seat ≡ with_draft (the_view l.fn.seat) (0 ∷ take l.i l.words)) × (l.draft_start ≡ draft_start (the_view l.fn.seat)) × (l.seat.base ≡ l.fn.seat.base) × (l.seat.progress ≡ l.fn.seat.progress)
