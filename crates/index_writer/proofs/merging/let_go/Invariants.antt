use Rattle.std.proofs.Common.{◌≡◌, drop}
use Rattle.std.specs.Prelude.{vec_capacity}
use Rattle.index_writer.proofs.LettingGo.{IsLeft}
use Rattle.index_writer.proofs.merging.let_go.Given as goal

abbrev pub invariant-loop-id : goal.invariant-loop-id
invariant-loop-id l = record {
  left : IsLeft l.segments l.ids (drop l.id-index l.ids) l.fn.written.items (drop l.id-index l.fn.written.items) l.at l.written.items;
  room : vec_capacity l.written ≡ vec_capacity l.fn.written;
}
