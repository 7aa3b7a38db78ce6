use Rattle.std.proofs.Common.{◌≡◌, ◌-◌, ◌^◌, take}
use Rattle.std.specs.Prelude.{min}
use Rattle.segment_core.specs.LiveRows.{all_live}
use Rattle.store_answers.specs.Own.{born_up_to}
use Rattle.store_answers.proofs.own.earlier.Given as goal

abbrev pub invariant-loop-segment : goal.invariant-loop-segment
invariant-loop-segment l = l.count ≡ min (born_up_to l.base (all_live (take l.segment-index l.segments))) (2 ^ 64 - 1)
