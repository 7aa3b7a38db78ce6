use Rattle.std.proofs.Common.{◌≡◌, ◌+◌, length}
use Rattle.std.specs.List.{slice_get, filter_map}
use Rattle.merge_core.specs.Reading.{IsCopied}
use Rattle.merge_core.proofs.copying.copy_rows.Given as goal

abbrev pub invariant-loop-row : goal.invariant-loop-row
invariant-loop-row l = record {
  copied : IsCopied (filter_map (slice_get l.segments) l.places) l.origins l.rows;
  longer : length l.rows ≡ length l.fn.rows + l.row;
}
