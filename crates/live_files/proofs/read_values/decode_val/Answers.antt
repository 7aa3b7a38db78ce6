use Rattle.std.proofs.Common.{arith}
use Rattle.ix_base.specs.declared.file_name.FileName.TheVariants.{Values}
use Rattle.live_files.proofs.ValuesRead.{values_found, values_only}
use Rattle.live_files.proofs.read_values.decode_val.Goals as goal

pub returns-clause-found : goal.returns-clause-found
returns-clause-found c = values_found _ c.args.id c.args.v c.args.row_count c.args.bytes.now (Values c.args.id c.args.v) c.placed_values.result (λ i. omega (arith, c.type_inv.bytes i)) c.placed_values.ensures

pub returns-clause-only : goal.returns-clause-only
returns-clause-only c = values_only _ c.args.id c.args.v c.args.row_count c.args.bytes.now (Values c.args.id c.args.v) c.placed_values.result (omega arith) (omega arith) (omega arith) c.placed_values.ensures
