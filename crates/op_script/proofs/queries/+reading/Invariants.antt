use Rattle.std.proofs.Common.{◌≡◌, option_map, drop}
use Rattle.serde_json.specs.View.{items_view, members_view}
use Rattle.op_script.specs.Queries.{queries_of, queries_at}
use Rattle.op_script.proofs.Trees.{onto_trees}
use Rattle.op_script.proofs.queries.+reading.Given as goal

abbrev pub invariant-read_list_at-loop-name : goal.invariant-read_list_at-loop-name
invariant-read_list_at-loop-name l =
    (goal.iterator-read_list_at-loop-name).can_next l.name-iterator ×
    (goal.iterator-read_list_at-loop-name).is_finite l.name-iterator × (queries_at l.at (members_view l.name-iterator) ≡ queries_at l.at (members_view l.members.entries))

abbrev pub invariant-read_queries-loop-item : goal.invariant-read_queries-loop-item
invariant-read_queries-loop-item l = option_map (onto_trees l.queries.items) (queries_of (items_view (drop l.item-index l.item-items))) ≡ queries_of (items_view l.item-items)
