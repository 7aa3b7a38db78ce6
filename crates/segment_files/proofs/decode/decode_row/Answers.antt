use Rattle.std.proofs.Common.{arith}
use Rattle.std.specs.BTreeSet.{contains}
use Rattle.std.specs.Ordering.{nat_cmp}
use Rattle.ix_base.specs.declared.file_name.FileName.TheVariants.{Rows}
use Rattle.segment_files.proofs.RowLaws.{rows_found, rows_only}
use Rattle.segment_files.proofs.decode.decode_row.Goals as goal

pub returns-clause-found : goal.returns-clause-found
returns-clause-found c = rows_found c.args.id c.args.row_count c.args.number (contains nat_cmp c.args.earlier.now) c.args.bytes.now (Rows c.args.id) c.placed_rows.result (λ i. omega (arith, c.type_inv.bytes i)) c.placed_rows.ensures

pub returns-clause-only : goal.returns-clause-only
returns-clause-only c = rows_only c.args.id c.args.row_count c.args.number (contains nat_cmp c.args.earlier.now) c.args.bytes.now (Rows c.args.id) c.placed_rows.result (omega arith) (omega arith) c.placed_rows.ensures
