use Rattle.std.proofs.Common.{◌≡◌, ◌+◌, length}
use Rattle.std.specs.Vec.Iter.{into_iter_items}
use Rattle.delete_queue.specs.Making.{AreNewFrom}
use Rattle.index_writer.specs.Rounds.{AreBegunFrom}
use Rattle.index_writer.proofs.begin.writers_of.Given as goal

abbrev pub invariant-loop-seat : goal.invariant-loop-seat
invariant-loop-seat l = record {
  count : length l.writers.items + length (into_iter_items l.seat-iterator) ≡ length l.fn.seats.items;
  made : AreBegunFrom l.queue l.buffer 0 l.writers.items;
  rest : AreNewFrom l.queue (length l.writers.items) (into_iter_items l.seat-iterator);
}
