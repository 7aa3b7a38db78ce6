use Rattle.std.proofs.Common.{◌≡◌, [], ◌∷◌, ◌++◌, Option, Some, None, ◌∙◌, sym, ap, drop, ◌+◌, List, ℕ, get_or}
use Rattle.std.proofs.lemmas.List.{at_drop_more}
use Rattle.std.specs.List.{flat_map}
use Rattle.ix_base.specs.Terms.{long_term, text_places, folded_words, placed_from}
use Rattle.analysis.proofs.LongTerms.{long_text_some, long_text_none}
use Rattle.analysis.proofs.sizes.long_text.Goals as goal

abbrev Field : Type 0
Field = List ℕ × List ℕ

abbrev long_of : List Field → Option ℕ
long_of fields = long_term (flat_map text_places fields)

-- the first field that is left is this one
left : (fields : List Field) (i : ℕ) (field : Field) → field ≡ get_or fields i field → long_of (get_or fields i field ∷ drop (i + 1) fields) ≡ long_term (text_places (field.0, field.1) ++ flat_map text_places (drop (i + 1) fields))
left fields i field is = ap (λ f. long_of (f ∷ drop (i + 1) fields)) (sym is)

pub returns-in-Some : goal.returns-in-Some
returns-in-Some c =
    let fields = c.args.fields.now in
    let i = c.loop-text.text-index in
    let field = c.loop-text-item.result in
    let rest = flat_map text_places (drop (i + 1) fields) in
    let found : long_term (placed_from 0 [] (folded_words field.1)) ≡ Some c.in-Some.size = ap (λ t. long_term (placed_from 0 [] (folded_words t))) (sym c.as_str.ensures.bytes) ∙ sym c.in_ok-size.ensures ∙ c.in-Some.is in
    sym (long_text_some field.0 field.1 rest c.in-Some.size found)
    ∙ sym (left fields i field c.loop-text-item.is)
    ∙ sym (at_drop_more long_of fields i field c.loop-text-test.true)
    ∙ c.loop-text.invariant

pub loop-text-preserved : goal.loop-text-preserved
loop-text-preserved c =
    let fields = c.args.fields.now in
    let i = c.loop-text.text-index in
    let field = c.loop-text-item.result in
    let rest = flat_map text_places (drop (i + 1) fields) in
    let found : long_term (placed_from 0 [] (folded_words field.1)) ≡ None = ap (λ t. long_term (placed_from 0 [] (folded_words t))) (sym c.as_str.ensures.bytes) ∙ sym c.in_ok-size.ensures ∙ c.in_default.is in
    sym (long_text_none field.0 field.1 rest found)
    ∙ sym (left fields i field c.loop-text-item.is)
    ∙ sym (at_drop_more long_of fields i field c.loop-text-test.true)
    ∙ c.loop-text.invariant
