use Rattle.std.proofs.Common.{◌≡◌, take}
use Rattle.index_writer.specs.Merging.{ids_of}
use Rattle.index_writer.proofs.merging.ids_of.Given as goal

abbrev pub invariant-loop-segment : goal.invariant-loop-segment
invariant-loop-segment l = l.ids.items ≡ ids_of (take l.segment-index l.segments)
