use Rattle.std.proofs.Common.{◌≡◌, ◌++◌, length, take}
use Rattle.std.specs.List.{flat_map, AllByRecursion}
use Rattle.live_files.specs.LiveFits.{ValueFits}
use Rattle.live_files.specs.LiveSpelling.{value_bytes}
use Rattle.live_files.proofs.NumberedValues.{numbers_at, values_in, NamesRiseIn}
use Rattle.live_files.proofs.values.put_values.Given as goal

abbrev pub invariant-loop-row : goal.invariant-loop-row
invariant-loop-row l = record {
  bytes : l.out.items ≡ l.fn.out.items ++ flat_map value_bytes (values_in (numbers_at l.live.marks) (take l.row-index l.numbered));
  fits : AllByRecursion (ValueFits (length l.live.marks)) (values_in (numbers_at l.live.marks) (take l.row-index l.numbered));
  rise : NamesRiseIn (numbers_at l.live.marks) (take l.row-index l.numbered);
}
