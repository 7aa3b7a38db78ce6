use Rattle.std.proofs.Common.{◌≡◌, ◌∙◌, ◌+◌, [], ◌∷◌, ◌++◌, drop, drop-cons, add-one, sym, ap, option_map, Some, suc, true, is_some, rules}
use Rattle.serde_json.specs.View.{view, items_view}
use Rattle.op_script.specs.Documents.{document_of, documents_of}
use Rattle.op_script.proofs.BlockLists.{first_document, documents_more, is_some-onto}
use Rattle.op_script.proofs.blocks.documents_from.Goals as goal

pub document_from-requires : goal.document_from-requires
document_from-requires c =
    let items = c.deref-item-items.result.now in
    let i = c.loop-item.item-index in
    let found = c.item-item.result in
    let done = c.loop-item.docs.items in
    let cut : drop i items ≡ found ∷ drop (i + 1) items = rw add-one (drop-cons items i found (search rules) ∙ ap (λ v. v ∷ drop (suc i) items) (sym c.item-item.is)) in
    let left : option_map (λ rest. done ++ rest) (documents_of (items_view (drop i items))) ≡ documents_of (items_view items) = c.loop-item.invariant in
    let all : is_some (documents_of (items_view items)) ≡ true = rw c.deref-item-items.ensures.value c.requires in
    first_document (view found) (items_view (drop (i + 1) items)) (sym (is_some-onto done _) ∙ ap is_some (rw cut at left) ∙ all)

pub loop-item-preserved : goal.loop-item-preserved
loop-item-preserved c =
    let items = c.deref-item-items.result.now in
    let i = c.loop-item.item-index in
    let found = c.item-item.result in
    let doc = c.in_ok-document_from.field-0 in
    let done = c.loop-item.docs.items in
    let cut : drop i items ≡ found ∷ drop (i + 1) items = rw add-one (drop-cons items i found (search rules) ∙ ap (λ v. v ∷ drop (suc i) items) (sym c.item-item.is)) in
    let is : document_of (view found) ≡ Some doc = c.in_ok-document_from.ensures in
    let pushed : c.push.new.self.items ≡ done ++ doc ∷ [] = c.in_ok-push.ensures.items in
    let left : option_map (λ rest. done ++ rest) (documents_of (items_view (drop i items))) ≡ documents_of (items_view items) = c.loop-item.invariant in
    rw pushed (documents_more done doc (view found) (items_view (drop (i + 1) items)) is ∙ rw cut at left)
