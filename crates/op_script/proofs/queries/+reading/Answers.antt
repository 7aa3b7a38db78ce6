use Rattle.std.proofs.Common.{◌≡◌, ◌∙◌, ◌+◌, [], ◌∷◌, ◌++◌, drop, drop-cons, add-one, sym, ap, option_map, Some, suc, rules}
use Rattle.std.proofs.Math.ListN.{drop_of_length-le}
use Rattle.serde_json.specs.View.{view, items_view}
use Rattle.op_script.specs.Queries.{query_of, queries_of}
use Rattle.op_script.proofs.Trees.{onto_trees, onto_trees-none, queries_more}
use Rattle.op_script.proofs.queries.+reading.Goals as goal

pub read_queries-loop-item-preserved : goal.read_queries-loop-item-preserved
read_queries-loop-item-preserved t c =
    let items = c.deref-item-items.result.now in
    let i = c.loop-item.item-index in
    let found = c.item-item.result in
    let done = c.loop-item.queries.items in
    let cut : drop i items ≡ found ∷ drop (i + 1) items = rw add-one (drop-cons items i found (search rules) ∙ ap (λ v. v ∷ drop (suc i) items) (sym c.item-item.is)) in
    let is : query_of (view found) ≡ Some c.in-Some.query = sym (rw c.in-Some.is at c.in_ok-query.ensures) in
    let pushed : c.push.new.self.items ≡ done ++ c.in-Some.query ∷ [] = c.in_ok-push-in-Some.ensures.items in
    let left : option_map (onto_trees done) (queries_of (items_view (drop i items))) ≡ queries_of (items_view items) = c.loop-item.invariant in
    rw pushed (queries_more done c.in-Some.query (view found) (items_view (drop (i + 1) items)) is ∙ rw cut at left)

pub read_queries-returns : goal.read_queries-returns
read_queries-returns t c =
    let items = c.deref-item-items.result.now in
    let done = c.loop-item.queries.items in
    let left : option_map (onto_trees done) (queries_of (items_view (drop c.loop-item.item-index items))) ≡ queries_of (items_view items) = c.loop-item.invariant in
    let none : drop c.loop-item.item-index items ≡ [] = drop_of_length-le items (search rules) in
    ap Some (sym (onto_trees-none done)) ∙ (rw none at left) ∙ ap (λ vs. queries_of (items_view vs)) c.deref-item-items.ensures.value
