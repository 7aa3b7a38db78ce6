use Rattle.std.proofs.Common.{◌≡◌, ◌++◌, Some, None, ◌∙◌, sym, ap, map, codes}
use Rattle.std.specs.List.{flat_map}
use Rattle.std.proofs.lemmas.Result.{IfOk-weaker}
use Rattle.ix_base.specs.Documents.{Document}
use Rattle.ix_base.specs.Terms.{long_term, whole, terms, text_places}
use Rattle.analysis.proofs.LongTerms.{long_size, long_term-skip, long_term-append_some, long_term-append_none}
use Rattle.analysis.proofs.sizes.long_term.Goals as goal

pub returns-in-Some-long_whole : goal.returns-in-Some-long_whole
returns-in-Some-long_whole c =
    let doc = c.args.doc.now in
    let exact = map whole doc.exact in
    let text = flat_map text_places doc.text in
    let size = c.in-Some-long_whole.size in
    let short : long_size doc.key ≡ None = ap (λ (d : Document). long_size d.key) (sym c.doc.view_is) ∙ ap long_size (sym c.as_str.ensures.bytes) ∙ sym c.long_size.ensures ∙ c.in_default.is in
    let found : long_term exact ≡ Some size = ap (λ (d : Document). long_term (map whole d.exact)) (sym c.doc.view_is) ∙ ap (λ fs. long_term (map whole fs)) (sym c.as_slice.ensures.pairs) ∙ sym c.long_whole.ensures ∙ c.in-Some-long_whole.is in
    sym (long_term-skip (whole (codes "key", doc.key)) (exact ++ text) short ∙ long_term-append_some exact text size found)

pub returns : goal.returns
returns c =
    let doc = c.args.doc.now in
    let exact = map whole doc.exact in
    let text = flat_map text_places doc.text in
    let short : long_size doc.key ≡ None = ap (λ (d : Document). long_size d.key) (sym c.doc.view_is) ∙ ap long_size (sym c.as_str.ensures.bytes) ∙ sym c.long_size.ensures ∙ c.in_default.is in
    let none : long_term exact ≡ None = ap (λ (d : Document). long_term (map whole d.exact)) (sym c.doc.view_is) ∙ ap (λ fs. long_term (map whole fs)) (sym c.as_slice.ensures.pairs) ∙ sym c.long_whole.ensures ∙ c.in_default-long_whole.is in
    let all : long_term (terms doc) ≡ long_term text = long_term-skip (whole (codes "key", doc.key)) (exact ++ text) short ∙ long_term-append_none exact text none in
    let same : long_term (flat_map text_places c.as_slice-2.result.now) ≡ long_term (terms doc) = ap (λ fs. long_term (flat_map text_places fs)) c.as_slice-2.ensures.pairs ∙ ap (λ (d : Document). long_term (flat_map text_places d.text)) c.doc.view_is ∙ sym all in
    IfOk-weaker c.long_text.result _ (λ size. size ≡ long_term (terms doc)) (λ size is. is ∙ same) c.long_text.ensures
