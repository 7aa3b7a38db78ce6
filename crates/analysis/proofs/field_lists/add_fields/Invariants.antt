use Rattle.std.proofs.Common.{take}
use Rattle.std.specs.List.{flat_map}
use Rattle.analysis.specs.Kept.{AddsPlaces, cut_places}
use Rattle.analysis.proofs.field_lists.add_fields.Given as goal

abbrev pub invariant-loop-name : goal.invariant-loop-name
invariant-loop-name l = AddsPlaces l.row (flat_map (cut_places l.cut) (take l.name-index l.pairs)) l.initial.fields.entries l.fields.entries
