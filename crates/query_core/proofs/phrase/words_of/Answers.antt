use Rattle.std.proofs.Common.{◌≡◌, ◌+◌, [], ◌∷◌, ◌++◌, map, take, get_or, sym, ap, ◌∙◌, subst}
use Rattle.std.proofs.lemmas.List.{take_more, map-append}
use Rattle.ix_base.specs.declared.document.Term.{Term}
use Rattle.query_core.specs.Answers.{term_of}
use Rattle.query_core.specs.Phrases.{AreWords}
use Rattle.query_core.proofs.Phrases.{words_push}
use Rattle.query_core.proofs.phrase.words_of.Goals as goal

pub loop-bytes-preserved : goal.loop-bytes-preserved
loop-bytes-preserved c =
    let field = c.args.field.now in
    let texts = c.deref-bytes-items.result.now in
    let i = c.loop-bytes.bytes-index in
    let keys = c.insert_full.new.self.keys in
    let order = c.loop-bytes.order.items in
    let at = c.in_ok-at.at in
    let term = c.new.result in
    let words = map (term_of field) (take i texts) in
    let stored = c.in_ok-at.ensures.stored in
    let is : term ≡ term_of field (get_or texts i c.bytes-item.result) = c.new.ensures ∙ (λ n. term_of (c.in_ok-field.ensures n) ((c.in_ok-bytes.ensures ∙ c.bytes-item.is) n)) in
    let more : map (term_of field) (take (i + 1) texts) ≡ words ++ term ∷ [] =
    ap (map (term_of field)) (take_more texts i c.bytes-item.result c.loop-bytes-test.true) ∙ map-append (term_of field) (take i texts) (get_or texts i c.bytes-item.result ∷ []) ∙ ap (λ (t : Term). words ++ t ∷ []) (sym is) in
    subst (λ l. AreWords keys l (map (term_of field) (take (i + 1) texts))) (sym c.in_ok-push.ensures.items)
    (subst (AreWords keys (order ++ at ∷ [])) (sym more)
    (words_push c.loop-bytes.terms.keys order words c.loop-bytes.invariant term at keys stored.0 c.in_ok-at.ensures.keys c.in_ok-at.ensures.within stored.1 stored.2))
