use Rattle.std.proofs.Common.{arith}
use Rattle.ix_base.specs.declared.file_name.FileName.TheVariants.{Commit}
use Rattle.commit_point.proofs.HeadReading.{head_found, head_only}
use Rattle.commit_point.proofs.decode.decode_commit.Goals as goal

pub returns-clause-found : goal.returns-clause-found
returns-clause-found c = head_found c.args.number c.args.bytes.now (Commit c.args.number) c.placed_head.result (λ i. omega (arith, c.type_inv.bytes i)) c.placed_head.ensures

pub returns-clause-only : goal.returns-clause-only
returns-clause-only c = head_only c.args.number c.args.bytes.now (Commit c.args.number) c.placed_head.result c.placed_head.ensures
