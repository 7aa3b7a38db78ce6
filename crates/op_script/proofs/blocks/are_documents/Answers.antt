use Rattle.std.proofs.Common.{◌≡◌, ◌∙◌, ◌+◌, ◌∷◌, drop, drop-cons, add-one, sym, ap, suc, false, true, is_some, rules}
use Rattle.serde_json.specs.View.{view, items_view}
use Rattle.op_script.specs.Documents.{document_of, documents_of}
use Rattle.op_script.proofs.BlockLists.{no_documents, one_document}
use Rattle.op_script.proofs.blocks.are_documents.Goals as goal

pub returns-then-not-is_document : goal.returns-then-not-is_document
returns-then-not-is_document c =
    let items = c.deref-item-items.result.now in
    let i = c.loop-item.item-index in
    let found = c.item-item.result in
    let cut : drop i items ≡ found ∷ drop (i + 1) items = rw add-one (drop-cons items i found (search rules) ∙ ap (λ v. v ∷ drop (suc i) items) (sym c.item-item.is)) in
    let none : is_some (document_of (view found)) ≡ false = sym c.is_document.ensures ∙ search rules in
    let left : is_some (documents_of (items_view (drop i items))) ≡ is_some (documents_of (items_view items)) = c.loop-item.invariant in
    sym (no_documents (view found) (items_view (drop (i + 1) items)) none) ∙ rw cut at left ∙ ap (λ vs. is_some (documents_of (items_view vs))) c.deref-item-items.ensures.value

pub loop-item-preserved : goal.loop-item-preserved
loop-item-preserved c =
    let items = c.deref-item-items.result.now in
    let i = c.loop-item.item-index in
    let found = c.item-item.result in
    let cut : drop i items ≡ found ∷ drop (i + 1) items = rw add-one (drop-cons items i found (search rules) ∙ ap (λ v. v ∷ drop (suc i) items) (sym c.item-item.is)) in
    let one : is_some (document_of (view found)) ≡ true = sym c.is_document.ensures ∙ search rules in
    let left : is_some (documents_of (items_view (drop i items))) ≡ is_some (documents_of (items_view items)) = c.loop-item.invariant in
    sym (one_document (view found) (items_view (drop (i + 1) items)) one) ∙ rw cut at left
