use Rattle.std.proofs.Common.{◌≡◌, ◌+◌}
use Rattle.std.specs.Vec.{vec_len, vec_capacity}
use Rattle.delete_queue.specs.Ties.{IsTold}
use Rattle.delete_queue.specs.Seats.{the_view}
use Rattle.delete_queue.specs.Linking.{Rereads}
use Rattle.delete_queue.proofs.Copying.{Fills}
use Rattle.delete_queue.proofs.queue.DeleteQueue.copy_words.Given as goal

abbrev pub invariant-loop-i : goal.invariant-loop-i
invariant-loop-i l = IsTold l.self l.seat.inner × Rereads (the_view l.fn.seat) (the_view l.seat) × (l.seat.base ≡ l.fn.seat.base) × (l.seat.progress ≡ l.fn.seat.progress) × (l.first ≡ l.fn.found.place.word + 1)
    × (vec_capacity l.words ≡ vec_capacity l.fn.words) × (vec_len l.words ≡ vec_len l.fn.words + l.i) × Fills (the_view l.seat) l.first l.i l.fn.words.items l.words.items
