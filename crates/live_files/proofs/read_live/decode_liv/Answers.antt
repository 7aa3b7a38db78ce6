use Rattle.std.proofs.Common.{arith}
use Rattle.ix_base.specs.declared.file_name.FileName.TheVariants.{Live}
use Rattle.live_files.proofs.LiveRead.{live_found, live_only}
use Rattle.live_files.proofs.read_live.decode_liv.Goals as goal

pub returns-clause-found : goal.returns-clause-found
returns-clause-found c = live_found _ c.args.id c.args.v c.args.row_count c.args.bytes.now (Live c.args.id c.args.v) c.placed_live.result (λ i. omega (arith, c.type_inv.bytes i)) c.placed_live.ensures

pub returns-clause-only : goal.returns-clause-only
returns-clause-only c = live_only _ c.args.id c.args.v c.args.row_count c.args.bytes.now (Live c.args.id c.args.v) c.placed_live.result (omega arith) (omega arith) (omega arith) c.placed_live.ensures
