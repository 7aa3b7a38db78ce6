use Rattle.std.proofs.Common.{◌≡◌, [], length}
use Rattle.std.specs.List.{AllByRecursion}
use Rattle.std.specs.Global.{Vec}
use Rattle.thread_writer.specs.declared.piece.Piece.{Piece}
use Rattle.index_writer_tests.proofs.working.no_pieces.Given as goal

abbrev pub invariant-loop-at : goal.invariant-loop-at
invariant-loop-at l = record {
  count : length l.pieces.items ≡ l._at;
  none : AllByRecursion (λ (gave : Vec Piece). gave.items ≡ []) l.pieces.items;
}
