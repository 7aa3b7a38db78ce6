use Rattle.std.proofs.Common.{◌≡◌, take}
use Rattle.merge_core_tests.specs.Reading.{ids_in}
use Rattle.merge_core_tests.proofs.reading.ids_of.Given as goal

abbrev pub invariant-loop-segment : goal.invariant-loop-segment
invariant-loop-segment l = l.ids.items ≡ ids_in (take l.segment-index l.segments)
