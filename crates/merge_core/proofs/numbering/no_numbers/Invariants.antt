use Rattle.std.proofs.Common.{take}
use Rattle.std.specs.List.{filter_map, slice_get}
use Rattle.merge_core.specs.Numbers.{AreNoNumbers}
use Rattle.merge_core.proofs.numbering.no_numbers.Given as goal

abbrev pub invariant-loop-source : goal.invariant-loop-source
invariant-loop-source l = AreNoNumbers (take l.source (filter_map (slice_get l.segments) l.places)) l.numbers.items
