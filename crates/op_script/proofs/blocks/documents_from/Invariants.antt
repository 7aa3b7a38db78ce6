use Rattle.std.proofs.Common.{◌≡◌, ◌++◌, option_map, drop}
use Rattle.serde_json.specs.View.{items_view}
use Rattle.op_script.specs.Documents.{documents_of}
use Rattle.op_script.proofs.blocks.documents_from.Given as goal

abbrev pub invariant-loop-item : goal.invariant-loop-item
invariant-loop-item l = option_map (λ rest. l.docs.items ++ rest) (documents_of (items_view (drop l.item-index l.item-items))) ≡ documents_of (items_view l.item-items)
