use Rattle.std.proofs.Common.{◌+◌, ◌≤◌, take}
use Rattle.std.specs.Prelude.{sum_by}
use Rattle.merge_core.specs.Picking.{own_postings}
use Rattle.merge_core.proofs.room.behind_all_most.Given as goal

abbrev pub invariant-loop-segment : goal.invariant-loop-segment
invariant-loop-segment l = l.left + sum_by (own_postings l.ids) (take l.segment-index l.segments) ≤ l.fn.room
