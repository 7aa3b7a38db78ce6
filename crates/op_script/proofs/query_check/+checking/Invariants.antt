use Rattle.std.proofs.Common.{◌≡◌, is_some, drop}
use Rattle.serde_json.specs.View.{items_view, members_view}
use Rattle.op_script.specs.Queries.{queries_of, queries_at}
use Rattle.op_script.proofs.query_check.+checking.Given as goal

abbrev pub invariant-is_list_at-loop-name : goal.invariant-is_list_at-loop-name
invariant-is_list_at-loop-name l =
    (goal.iterator-is_list_at-loop-name).can_next l.name-iterator ×
    (goal.iterator-is_list_at-loop-name).is_finite l.name-iterator × (queries_at l.at (members_view l.name-iterator) ≡ queries_at l.at (members_view l.members.entries))

abbrev pub invariant-are_queries-loop-item : goal.invariant-are_queries-loop-item
invariant-are_queries-loop-item l = is_some (queries_of (items_view (drop l.item-index l.item-items))) ≡ is_some (queries_of (items_view l.item-items))
