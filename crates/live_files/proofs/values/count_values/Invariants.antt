use Rattle.std.proofs.Common.{take}
use Rattle.live_files.proofs.NumberedValues.{numbers_at, values_in, Counted}
use Rattle.live_files.proofs.values.count_values.Given as goal

abbrev pub invariant-loop-row : goal.invariant-loop-row
invariant-loop-row l = Counted (values_in (numbers_at l.live.marks) (take l.row-index l.numbered)) l.count
