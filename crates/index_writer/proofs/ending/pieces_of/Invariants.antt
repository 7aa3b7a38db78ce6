use Rattle.std.specs.List.{AllByRecursion}
use Rattle.std.specs.Vec.Iter.{into_iter_items}
use Rattle.index_writer.specs.Ending.{CanEnd}
use Rattle.index_writer.proofs.Gathering.{GoesOn}
use Rattle.index_writer.proofs.ending.pieces_of.Given as goal

abbrev pub invariant-loop-rest : goal.invariant-loop-rest
invariant-loop-rest l = record {
  goes_on : GoesOn l.base l.fn.rests.items (into_iter_items l.rest-iterator) l.pieces.items;
  can : AllByRecursion CanEnd (into_iter_items l.rest-iterator);
}
