use Rattle.std.proofs.Common.{arith}
use Rattle.ix_base.specs.declared.file_name.FileName.TheVariants.{Posts}
use Rattle.segment_files.proofs.PostsRead.{posts_found, posts_only}
use Rattle.segment_files.proofs.read_posts.decode_pst.Goals as goal

pub returns-clause-found : goal.returns-clause-found
returns-clause-found c = posts_found c.args.id c.args.row_count c.args.bytes.now (Posts c.args.id) c.placed_posts.result (λ i. omega (arith, c.type_inv.bytes i)) c.placed_posts.ensures

pub returns-clause-only : goal.returns-clause-only
returns-clause-only c = posts_only c.args.id c.args.row_count c.args.bytes.now (Posts c.args.id) c.placed_posts.result (omega arith) (omega arith) c.placed_posts.ensures
