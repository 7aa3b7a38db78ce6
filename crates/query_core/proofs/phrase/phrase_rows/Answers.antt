use Rattle.std.proofs.Common.{◌≡◌, ◌<◌, ◌∙◌, map, refl, sym, length, arith}
use Rattle.std.proofs.lemmas.Result.{IfOk-weaker}
use Rattle.std.proofs.lemmas.Bool.{eqb-true, eqb-false}
use Rattle.ix_base.specs.Terms.{terms, folded_words}
use Rattle.ix_base.specs.Matches.{phrase_stands}
use Rattle.query_core.specs.Answers.{AreRowsWhere, term_of}
use Rattle.query_core.proofs.Joining.{no_phrase, phrase_rows_from}
use Rattle.query_core.proofs.Phrases.{words_long}
use Rattle.query_core.proofs.phrase.phrase_rows.Goals as goal

pub returns-then-is_empty : goal.returns-then-is_empty
returns-then-is_empty g c = λ docs inverts.
    let field = c.args.field.now in
    let texts = folded_words c.args.text.now in
    let words = c.in_ok-words.words in
    let order = words.order in
    let none : length order.items ≡ 0 = sym order.ok.0 ∙ eqb-true order.len 0 (sym c.is_empty.ensures ∙ c.if-is_empty.true) in
    c.new.ensures.items ∙ no_phrase field texts (map (term_of field) texts) docs refl (words_long words.terms.keys order.items (map (term_of field) texts) c.in_ok-words.ensures ∙ none)

pub returns : goal.returns
returns g c =
    let field = c.args.field.now in
    let texts = folded_words c.args.text.now in
    let words = c.in_ok-words.words in
    let order = words.order in
    let list = map (term_of field) texts in
    let count = order.ok.0 in
    let other = eqb-false order.len 0 (sym c.is_empty.ensures ∙ c.if-is_empty.false) in
    let some : 0 < length list = omega (arith, count, other, words_long words.terms.keys order.items list c.in_ok-words.ensures) in
    IfOk-weaker c.standing.result _ (λ rows. AreRowsWhere (g.I.Inverted.inverts c.args.index.now) (λ doc. phrase_stands (terms doc) field texts) rows.items)
    (λ rows h docs inverts. h list c.in_ok-words.ensures docs inverts ∙ phrase_rows_from field texts list docs refl some)
    c.standing.ensures
