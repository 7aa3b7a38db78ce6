-- The writers of a round that begins.
use Rattle.std.proofs.Common.{◌≡◌, ℕ, ◌+◌, List, [], ◌∷◌, ◌++◌, length, sym, subst, arith}
use Rattle.delete_queue.specs.declared.queue.DeleteQueue.{DeleteQueue}
use Rattle.delete_queue.specs.declared.seat.Seat.{Seat}
use Rattle.delete_queue.specs.Making.{IsNew}
use Rattle.delete_queue.specs.Seats.{IsSeatOf, number_of, own_of}
use Rattle.thread_writer.specs.declared.writer.ThreadWriter.{ThreadWriter}
use Rattle.thread_writer.specs.Writing.{Did, IsWriter, parts_of}
use Rattle.index_writer.specs.Rounds.{AreBegunFrom, IsBegunWriter}

pub one_more : (q : DeleteQueue) (size i : ℕ) (ws : List ThreadWriter) (w : ThreadWriter) → AreBegunFrom q size i ws
    → IsBegunWriter q size (i + length ws) w → AreBegunFrom q size i (ws ++ w ∷ [])
one_more q size i [] w all is = (subst (λ (n : ℕ). IsBegunWriter q size n w) (omega arith) is, tt)
one_more q size i (v ∷ ws) w all is =
    (all.0, one_more q size (i + 1) ws w all.1 (subst (λ (n : ℕ). IsBegunWriter q size n w) (omega arith) is))

-- the writer of a new seat
pub made : (q : DeleteQueue) (size n : ℕ) (s : Seat) (w : ThreadWriter) → IsNew q n s → w.seat ≡ s → w.size ≡ size
    → ((q : DeleteQueue) → IsSeatOf q s → IsWriter q w × Did q (parts_of w) [] []) → IsBegunWriter q size n w
made q size n s w new is size_is ready = record {
  number_is = subst (λ (t : Seat). number_of t ≡ n) (sym is) new.number;
  writer = (ready q new.seat).0;
  did = (ready q new.seat).1;
  own = subst (λ (t : Seat). own_of t ≡ []) (sym is) new.own;
  size_is = size_is;
}
