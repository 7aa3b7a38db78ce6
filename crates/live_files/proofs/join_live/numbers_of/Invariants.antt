use Rattle.std.proofs.Common.{◌≡◌, take}
use Rattle.live_files.specs.LiveMarks.{unrowed}
use Rattle.live_files.proofs.join_live.numbers_of.Given as goal

abbrev pub invariant-loop-value : goal.invariant-loop-value
invariant-loop-value l = l.pairs.items ≡ unrowed (take l.value-index l.values)
