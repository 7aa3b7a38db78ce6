use Rattle.std.proofs.Common.{◌≡◌, is_some, drop}
use Rattle.serde_json.specs.View.{items_view}
use Rattle.op_script.specs.Documents.{documents_of}
use Rattle.op_script.proofs.blocks.are_documents.Given as goal

abbrev pub invariant-loop-item : goal.invariant-loop-item
invariant-loop-item l = is_some (documents_of (items_view (drop l.item-index l.item-items))) ≡ is_some (documents_of (items_view l.item-items))
