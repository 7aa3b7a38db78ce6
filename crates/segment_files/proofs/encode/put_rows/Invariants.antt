use Rattle.std.proofs.Common.{◌≡◌, ◌++◌, length, take}
use Rattle.std.specs.List.{flat_map, AllByRecursion}
use Rattle.ix_base.specs.declared.document.Row.{Row}
use Rattle.ix_base.specs.Spelling.{be64, be32}
use Rattle.segment_files.specs.Spelling.{rows_mark, row}
use Rattle.segment_files.specs.Fits.{DocumentFits}
use Rattle.segment_files.proofs.encode.put_rows.Given as goal

abbrev pub invariant-loop-row : goal.invariant-loop-row
invariant-loop-row l = record {
  bytes : l.out.items ≡ l.fn.out.items ++ (rows_mark ++ (be64 l.id ++ (be32 (length l.rows) ++ flat_map row (take l.row-index l.rows))));
  fits : AllByRecursion (λ (r : Row). DocumentFits r.doc) (take l.row-index l.rows);
}
