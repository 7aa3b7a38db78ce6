use Rattle.std.proofs.Common.{◌≡◌, ◌++◌, length, map}
use Rattle.std.specs.Vec.Iter.{into_iter_items, into_iter_len}
use Rattle.piece_queue.specs.Views.{parcels_of}
use Rattle.piece_queue.proofs.receiver.Receiver.into_parcels.Given as goal

abbrev pub invariant-loop-piece : goal.invariant-loop-piece
invariant-loop-piece l = record {
  count : length l.all.items ≡ l.fn.count;
  all : l.yielded ++ into_iter_items l.piece-iterator ≡ l.fn.self.taken.items;
  few : into_iter_len l.piece-iterator ≡ length (into_iter_items l.piece-iterator);
  put : map (λ p. p.items) l.all.items ≡ parcels_of 0 l.fn.count l.yielded;
}
