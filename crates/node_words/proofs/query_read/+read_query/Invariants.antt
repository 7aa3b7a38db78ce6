use Rattle.std.proofs.Common.{◌≡◌, ◌+◌, ◌*◌, ◌++◌, length}
use Rattle.ix_base.specs.Query.{trees_of}
use Rattle.ix_base.specs.QueryBytes.{queries_bytes, count_of, AreQueries}
use Rattle.node_words.proofs.query_read.+read_query.Given as goal

-- each query takes its first byte, and each list its count
abbrev pub decreases-read_query : goal.decreases-read_query
decreases-read_query l = 2 * length l.reader.now

abbrev pub decreases-read_list : goal.decreases-read_list
decreases-read_list l = 2 * length l.reader.now + 1

abbrev pub invariant-read_list-loop : goal.invariant-read_list-loop
invariant-read_list-loop l = record {
  fits : AreQueries (trees_of l.items.items);
  count : count_of (trees_of l.items.items) ≡ l.counter;
  bytes : l.initial.reader ≡ queries_bytes (trees_of l.items.items) ++ l.reader;
}
