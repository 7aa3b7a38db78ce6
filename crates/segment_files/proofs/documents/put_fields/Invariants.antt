use Rattle.std.proofs.Common.{◌≡◌, ◌++◌, length, take}
use Rattle.std.specs.List.{flat_map, AllByRecursion}
use Rattle.ix_base.specs.Spelling.{be32}
use Rattle.segment_files.specs.Spelling.{field}
use Rattle.segment_files.specs.Fits.{FieldFits}
use Rattle.segment_files.proofs.documents.put_fields.Given as goal

abbrev pub invariant-loop-pair : goal.invariant-loop-pair
invariant-loop-pair l = record {
  bytes : l.out.items ≡ l.fn.out.items ++ (be32 (length l.pairs-2) ++ flat_map field (take l.pair-index l.pairs-2));
  fits : AllByRecursion FieldFits (take l.pair-index l.pairs-2);
}
