use Rattle.merge_core.specs.Picking.{own_postings}
use Rattle.merge_core.proofs.Summing.{IsLeft}
use Rattle.merge_core.proofs.room.behind_all_postings.Given as goal

abbrev pub invariant-loop-segment : goal.invariant-loop-segment
invariant-loop-segment l = record {
  left : IsLeft (own_postings l.ids) l.fn.room l.segments l.segment-index l.left;
}
