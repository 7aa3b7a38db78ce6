use Rattle.std.proofs.Common.{length, ap, arith}
use Rattle.ix_base.specs.Tree.{trees_count}
use Rattle.node_words.proofs.Sizes.{part_count_le, AreQueries-more, short_list, short_part, list_more, list_done, queries_done}
use Rattle.ix_base.specs.Spelling.{be32}
use Rattle.node_words.proofs.query_write.+put_query.Goals as goal

pub put_list-overflow_cast-items : goal.put_list-overflow_cast-items
put_list-overflow_cast-items t c = omega (arith, short_list c.as_slice-items.result.now c.args.queries.now c.as_slice-items.ensures c.requires)

pub put_list-put_query-requires : goal.put_list-put_query-requires
put_list-put_query-requires t c =
    let xs = c.as_slice-items.result.now in
    let le = part_count_le xs c.loop-query.query-index c.query-item.result c.loop-query-test.true c.query-item.is in
    let same = ap trees_count c.as_slice-items.ensures in (
      omega (arith, le, same, c.decreases),
      short_part xs c.args.queries.now c.loop-query.query-index c.query-item.result c.as_slice-items.ensures c.requires c.loop-query-test.true c.query-item.is,
    )

pub put_list-loop-query-preserved : goal.put_list-loop-query-preserved
put_list-loop-query-preserved t c =
    let xs = c.as_slice-items.result.now in
    record {
      bytes = list_more c.args.out.now.items (be32 (length xs)) xs c.loop-query.query-index c.query-item.result c.loop-query.out.items c.put_query.new.out.items c.loop-query-test.true c.query-item.is c.loop-query.invariant.bytes c.in_ok-put_query.ensures.bytes;
      queries = AreQueries-more xs c.loop-query.query-index c.query-item.result c.loop-query-test.true c.query-item.is c.loop-query.invariant.queries c.in_ok-put_query.ensures.query;
    }

pub put_list-returns-clause-bytes : goal.put_list-returns-clause-bytes
put_list-returns-clause-bytes t c =
    list_done c.args.out.now.items c.loop-query.out.items c.as_slice-items.result.now c.args.queries.now c.loop-query.query-index c.as_slice-items.ensures c.loop-query-test.false c.loop-query.invariant.bytes

pub put_list-returns-clause-queries : goal.put_list-returns-clause-queries
put_list-returns-clause-queries t c = (
  (short_list c.as_slice-items.result.now c.args.queries.now c.as_slice-items.ensures c.requires).1,
  queries_done c.as_slice-items.result.now c.args.queries.now c.loop-query.query-index c.as_slice-items.ensures c.loop-query-test.false c.loop-query.invariant.queries,
)
