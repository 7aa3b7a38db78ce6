use Rattle.std.proofs.Common.{take}
use Rattle.commit_point.specs.Holds.{AreInverted}
use Rattle.index_check.proofs.comparing.other_postings.Given as goal

abbrev pub invariant-loop-segment : goal.invariant-loop-segment
invariant-loop-segment l = AreInverted (take l.segment-index l.segments)
