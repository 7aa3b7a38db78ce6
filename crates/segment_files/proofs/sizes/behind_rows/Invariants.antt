use Rattle.segment_files.specs.Spelling.{row}
use Rattle.segment_files.proofs.Rooms.{IsLeft}
use Rattle.segment_files.proofs.sizes.behind_rows.Given as goal

abbrev pub invariant-loop-item : goal.invariant-loop-item
invariant-loop-item l = record {
  left : IsLeft row l.fn.room l.rows l.item-index l.left;
}
