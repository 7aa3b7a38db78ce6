use Rattle.std.proofs.Common.{◌≡◌, ◌++◌, length, map}
use Rattle.std.specs.Vec.Iter.{into_iter_items}
use Rattle.thread_writer.specs.declared.writer.ThreadWriter.{ThreadWriter}
use Rattle.thread_writer.specs.Writing.{parts_of}
use Rattle.index_writer.specs.Ending.{rests_of}
use Rattle.index_writer.proofs.ending.handed_back.Given as goal

abbrev pub invariant-loop-writer : goal.invariant-loop-writer
invariant-loop-writer l = record {
  seats : l.seats.items ++ map (λ (w : ThreadWriter). (parts_of w).seat) (into_iter_items l.writer-iterator) ≡ map (λ (w : ThreadWriter). (parts_of w).seat) l.fn.writers.items;
  rests : l.rests.items ++ rests_of (length l.rests.items) (into_iter_items l.writer-iterator) (into_iter_items l.pieces) ≡ rests_of 0 l.fn.writers.items l.fn.pieces.items;
  count : length (into_iter_items l.writer-iterator) ≡ length (into_iter_items l.pieces);
}
