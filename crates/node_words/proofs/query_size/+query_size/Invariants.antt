use Rattle.std.proofs.Common.{◌≡◌, ◌+◌, ◌-◌, ◌*◌, ◌^◌, min, length, take}
use Rattle.ix_base.specs.Query.{tree_of, trees_of}
use Rattle.ix_base.specs.QueryBytes.{queries_bytes}
use Rattle.ix_base.specs.Tree.{tree_count, trees_count}
use Rattle.node_words.proofs.query_size.+query_size.Given as goal

abbrev pub decreases-query_size : goal.decreases-query_size
decreases-query_size l = 2 * tree_count (tree_of l.query.now)

abbrev pub decreases-list_size : goal.decreases-list_size
decreases-list_size l = 2 * trees_count l.queries.now + 1

abbrev pub invariant-list_size-loop-query : goal.invariant-list_size-loop-query
invariant-list_size-loop-query l = l.size ≡ min (4 + length (queries_bytes (trees_of (take l.query-index l.query-items)))) (2 ^ 64 - 1)
