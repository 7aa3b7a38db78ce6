use Rattle.std.proofs.Common.{◌≡◌, ◌+◌}
use Rattle.segment_files.specs.Spelling.{field}
use Rattle.segment_files.proofs.Rooms.{IsLeft}
use Rattle.segment_files.proofs.sizes.behind_fields.Given as goal

abbrev pub invariant-loop-pair : goal.invariant-loop-pair
invariant-loop-pair l = record {
  left : IsLeft field l.initial.left l.items l.pair-index l.left;
  room : l.initial.left + 4 ≡ l.fn.room;
}
