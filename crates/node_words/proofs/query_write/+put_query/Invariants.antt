use Rattle.std.proofs.Common.{◌≡◌, ◌+◌, ◌*◌, ◌++◌, length, take}
use Rattle.ix_base.specs.Query.{tree_of, trees_of}
use Rattle.ix_base.specs.QueryBytes.{queries_bytes, AreQueries}
use Rattle.ix_base.specs.Spelling.{be32}
use Rattle.ix_base.specs.Tree.{tree_count, trees_count}
use Rattle.node_words.proofs.query_write.+put_query.Given as goal

abbrev pub decreases-put_query : goal.decreases-put_query
decreases-put_query l = 2 * tree_count (tree_of l.query.now)

abbrev pub decreases-put_list : goal.decreases-put_list
decreases-put_list l = 2 * trees_count l.queries.now + 1

abbrev pub invariant-put_list-loop-query : goal.invariant-put_list-loop-query
invariant-put_list-loop-query l = record {
  bytes : l.out.items ≡ l.fn.out.items ++ (be32 (length l.items) ++ queries_bytes (trees_of (take l.query-index l.items)));
  queries : AreQueries (trees_of (take l.query-index l.items));
}
