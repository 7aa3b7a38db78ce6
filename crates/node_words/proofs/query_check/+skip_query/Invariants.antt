use Rattle.std.proofs.Common.{◌≡◌, ◌+◌, ◌*◌, ◌++◌, length}
use Rattle.ix_base.specs.QueryBytes.{queries_bytes, count_of, AreQueries}
use Rattle.ix_base.specs.Tree.{Trees}
use Rattle.node_words.proofs.query_check.+skip_query.Given as goal

-- each query takes its first byte, and each list its count
abbrev pub decreases-skip_query : goal.decreases-skip_query
decreases-skip_query l = 2 * length l.reader.now

abbrev pub decreases-skip_list : goal.decreases-skip_list
decreases-skip_list l = 2 * length l.reader.now + 1

-- so many queries stand between where the list's queries begin and here
abbrev pub invariant-skip_list-loop : goal.invariant-skip_list-loop
invariant-skip_list-loop l = (qs : Trees) × AreQueries qs × (count_of qs ≡ l.counter) × (l.initial.reader ≡ queries_bytes qs ++ l.reader)
