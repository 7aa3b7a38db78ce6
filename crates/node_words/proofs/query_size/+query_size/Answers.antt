use Rattle.std.proofs.Common.{◌+◌, ◌-◌, ◌^◌, ℕ, List, length, ap, ◌∙◌, arith}
use Rattle.ix_base.specs.Query.{tree_of, trees_of}
use Rattle.ix_base.specs.QueryBytes.{queries_bytes, query_bytes}
use Rattle.ix_base.specs.Tree.{Trees, trees_count}
use Rattle.node_words.proofs.Sizes.{part_count_le, list_size-more, length-list_bytes, whole, length-term_query, length-phrase_query, length-range_query, exact_size}
use Rattle.ix_base.specs.declared.query.Query.{Query}
use Rattle.node_words.proofs.query_size.+query_size.Goals as goal

pub list_size-query_size-requires : goal.list_size-query_size-requires
list_size-query_size-requires t c =
    let le = part_count_le c.as_slice-query-items.result.now c.loop-query.query-index c.query-item.result c.loop-query-test.true c.query-item.is in
    let same = ap trees_count c.as_slice-query-items.ensures in
    (omega (arith, le, same, c.decreases), tt)

pub list_size-loop-query-preserved : goal.list_size-loop-query-preserved
list_size-loop-query-preserved t c =
    list_size-more (2 ^ 64 - 1) c.loop-query.size c.query_size.result c.saturating_add-size.result c.as_slice-query-items.result.now c.loop-query.query-index c.query-item.result
    c.loop-query-test.true c.query-item.is c.loop-query.invariant c.query_size.ensures c.saturating_add-size.ensures

pub list_size-returns : goal.list_size-returns
list_size-returns t c =
    let trees = ap trees_of (whole c.as_slice-query-items.result.now c.loop-query.query-index c.loop-query-test.false) ∙ c.as_slice-query-items.ensures in
    omega (arith, ap (λ (qs : Trees). length (queries_bytes qs)) trees, length-list_bytes c.args.queries.now)

pub query_size-returns-in-Term : goal.query_size-returns-in-Term
query_size-returns-in-Term t c =
    let len = ap (λ (q : Query). length (query_bytes (tree_of q))) c.in-Term.is ∙ length-term_query c.in-Term.term.field c.in-Term.term.bytes in
    exact_size (tree_of c.args.query.now) c.pair_size.result (9 + length c.in-Term.term.field + length c.in-Term.term.bytes) len
    (c.pair_size.ensures ∙ ap (λ (b : List ℕ). 9 + length c.in-Term.term.field + length b) c.as_str.ensures.bytes) (omega arith)

pub query_size-returns-in-Phrase : goal.query_size-returns-in-Phrase
query_size-returns-in-Phrase t c =
    let len = ap (λ (q : Query). length (query_bytes (tree_of q))) c.in-Phrase.is ∙ length-phrase_query c.in-Phrase.field c.in-Phrase.text in
    exact_size (tree_of c.args.query.now) c.pair_size-in-Phrase.result (9 + length c.in-Phrase.field + length c.in-Phrase.text) len
    (c.pair_size-in-Phrase.ensures ∙ ap (λ (b : List ℕ). 9 + length c.in-Phrase.field + length b) (c.as_str-in-Phrase.ensures.bytes ∙ c.as_text.ensures.bytes)) (omega arith)

pub query_size-returns-in-Range : goal.query_size-returns-in-Range
query_size-returns-in-Range t c =
    let len = ap (λ (q : Query). length (query_bytes (tree_of q))) c.in-Range.is ∙ length-range_query c.in-Range.name _ _ in
    exact_size (tree_of c.args.query.now) c.range_size.result (21 + length c.in-Range.name) len c.range_size.ensures (omega arith)
