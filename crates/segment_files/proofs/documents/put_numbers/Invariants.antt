use Rattle.std.proofs.Common.{◌≡◌, ◌++◌, length, take}
use Rattle.std.specs.List.{flat_map, AllByRecursion}
use Rattle.ix_base.specs.Spelling.{be64}
use Rattle.segment_files.specs.Spelling.{number_bytes}
use Rattle.segment_files.specs.Fits.{NumberFits}
use Rattle.segment_files.proofs.documents.put_numbers.Given as goal

abbrev pub invariant-loop-pair : goal.invariant-loop-pair
invariant-loop-pair l = record {
  bytes : l.out.items ≡ l.fn.out.items ++ (be64 (length l.pairs-2) ++ flat_map number_bytes (take l.pair-index l.pairs-2));
  fits : AllByRecursion NumberFits (take l.pair-index l.pairs-2);
}
