use Rattle.std.proofs.Common.{◌≡◌, ◌+◌, length}
use Rattle.delete_queue.specs.Ties.{IsTold}
use Rattle.delete_queue.specs.Seats.{the_view}
use Rattle.delete_queue.specs.Linking.{Rereads}
use Rattle.delete_queue.proofs.Reading.{Filled}
use Rattle.delete_queue.proofs.queue.DeleteQueue.read.Given as goal

abbrev pub invariant-loop-i : goal.invariant-loop-i
invariant-loop-i l = IsTold l.self l.seat.inner × Rereads (the_view l.fn.seat) (the_view l.seat) × (l.seat.base ≡ l.fn.seat.base) × (l.seat.progress ≡ l.fn.seat.progress) × (length l.words ≡ length l.fn.words) × (l.first ≡ l.fn.place.word + 1) × Filled (the_view l.seat) l.first l.i l.words
