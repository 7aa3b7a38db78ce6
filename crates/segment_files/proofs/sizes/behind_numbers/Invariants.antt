use Rattle.std.proofs.Common.{◌≡◌, ◌+◌}
use Rattle.segment_files.specs.Spelling.{number_bytes}
use Rattle.segment_files.proofs.Rooms.{IsLeft}
use Rattle.segment_files.proofs.sizes.behind_numbers.Given as goal

abbrev pub invariant-loop-pair : goal.invariant-loop-pair
invariant-loop-pair l = record {
  left : IsLeft number_bytes l.initial.left l.items l.pair-index l.left;
  room : l.initial.left + 8 ≡ l.fn.room;
}
