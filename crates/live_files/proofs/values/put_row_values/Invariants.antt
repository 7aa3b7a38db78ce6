use Rattle.std.proofs.Common.{◌≡◌, ℕ, ◌<◌, ◌++◌, take}
use Rattle.std.specs.List.{flat_map, AllByRecursion}
use Rattle.live_files.specs.LiveFits.{ValueFits}
use Rattle.live_files.specs.LiveSpelling.{row_values, value_bytes}
use Rattle.live_files.proofs.values.put_row_values.Given as goal

abbrev pub invariant-loop-pair : goal.invariant-loop-pair
invariant-loop-pair l = record {
  bytes : l.out.items ≡ l.fn.out.items ++ flat_map value_bytes (row_values l.row (take l.pair-index l.pairs));
  fits : (n : ℕ) → l.row < n → AllByRecursion (ValueFits n) (row_values l.row (take l.pair-index l.pairs));
}
