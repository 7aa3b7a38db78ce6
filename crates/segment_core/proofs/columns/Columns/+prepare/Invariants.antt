use Rattle.std.proofs.Common.{◌*◌, ◌+◌}
use Rattle.ix_base.specs.Query.{tree_of}
use Rattle.ix_base.specs.Tree.{tree_count, trees_count}
use Rattle.segment_core.specs.Columns.{AreColumnsOf}
use Rattle.segment_core.proofs.columns.Columns.+prepare.Given as goal

abbrev pub decreases-prepare : goal.decreases-prepare
decreases-prepare l = 2 * tree_count (tree_of l.query.now)

abbrev pub decreases-prepare_all : goal.decreases-prepare_all
decreases-prepare_all l = 2 * trees_count l.queries.now + 1

abbrev pub invariant-prepare_all-loop-query : goal.invariant-prepare_all-loop-query
invariant-prepare_all-loop-query l = AreColumnsOf l.rows l.self
