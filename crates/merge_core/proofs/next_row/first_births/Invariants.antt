use Rattle.std.proofs.Common.{◌≡◌, ◌<◌, ℕ, None, length, get_or}
use Rattle.std.specs.List.{filter_map, slice_get}
use Rattle.std.specs.Option.{option_map}
use Rattle.ix_base.specs.declared.document.Row.{Row}
use Rattle.merge_core.specs.Reading.{row_at}
use Rattle.merge_core.proofs.next_row.first_births.Given as goal

abbrev pub invariant-loop-source : goal.invariant-loop-source
invariant-loop-source l = record {
  count : length l.births.items ≡ l.source;
  each : (k : ℕ) → k < l.source → get_or l.births.items k None ≡ option_map (λ (r : Row). r.birth) (row_at (filter_map (slice_get l.segments) l.places) k 0);
}
