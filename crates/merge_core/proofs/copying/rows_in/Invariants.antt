use Rattle.std.proofs.Common.{◌≡◌, take}
use Rattle.std.specs.List.{slice_get, filter_map}
use Rattle.merge_core.specs.Merging.{row_count}
use Rattle.merge_core.proofs.copying.rows_in.Given as goal

abbrev pub invariant-loop-source : goal.invariant-loop-source
invariant-loop-source l = l.rows ≡ row_count (take l.source (filter_map (slice_get l.segments) l.places))
