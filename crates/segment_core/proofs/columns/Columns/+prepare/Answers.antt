use Rattle.std.proofs.Common.{◌≡◌, ◌<◌, ◌*◌, ◌+◌, ◌≤◌, ℕ, List, length, get_or, sym, ap, subst, arith}
use Rattle.ix_base.specs.Tree.{tree_count, trees_count}
use Rattle.ix_base.specs.Query.{tree_of, trees_of}
use Rattle.ix_base.specs.declared.query.Query.{Query}
use Rattle.query_core.proofs.Joining.{tree_within}
use Rattle.segment_core.proofs.columns.Columns.+prepare.Goals as goal

within : (queries : List Query) (i : ℕ) (query : Query) → i < length queries → query ≡ get_or queries i query → tree_count (tree_of query) ≤ trees_count (trees_of queries)
within queries i query lt is = subst (λ (q : Query). tree_count (tree_of q) ≤ trees_count (trees_of queries)) (sym is) (tree_within queries i query lt)

pub prepare_all-prepare-requires : goal.prepare_all-prepare-requires
prepare_all-prepare-requires t c =
    let queries = c.as_slice-query-items.result.now in
    let small : tree_count (tree_of c.query-item.result) ≤ trees_count (trees_of queries) = within queries c.loop-query.query-index c.query-item.result c.loop-query-test.true c.query-item.is in
    let same : trees_count (trees_of queries) ≡ trees_count c.args.queries.now = ap trees_count c.as_slice-query-items.ensures in
    let whole : t ≡ 2 * trees_count c.args.queries.now + 1 = sym c.decreases in
    (omega arith, c.loop-query.invariant)
