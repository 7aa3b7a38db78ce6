use Rattle.std.proofs.Common.{◌≡◌, ℕ, List, [], sym, ap, ◌∙◌, subst}
use Rattle.std.specs.Option.{option_copied_mut}
use Rattle.std.specs.BTreeMap.{BTreeMap, insert_entry}
use Rattle.std.specs.Cmp.Lexicographic.{slice_cmp}
use Rattle.std.specs.Ordering.{nat_cmp}
use Rattle.std.proofs.lemmas.Result.{on_ok_weaker}
use Rattle.ix_base.specs.Terms.{placed_from}
use Rattle.analysis.specs.Kept.{WordLists, FieldLists, IsFieldBelow, AddsWords, AddsPlaces, cut_words}
use Rattle.analysis.proofs.FieldPlaces.{words_below, field_set, field_insert}
use Rattle.analysis.proofs.field_lists.add_field.Goals as goal

pub add_text-requires : goal.add_text-requires
add_text-requires c =
    let key : c.new-key.result ≡ c.args.name.now = c.new-key.ensures ∙ c.in_ok-clone_in.ensures in
    let there = sym c.get_mut.ensures.value ∙ ap option_copied_mut c.in-Some.is in
    words_below c.args.row c.new-key.result c.in-Some.words.now c.args.fields.now.entries there
    (subst (λ (n : List ℕ). IsFieldBelow c.args.row n c.args.fields.now.entries) (sym key) c.requires)

pub returns-in-Some : goal.returns-in-Some
returns-in-Some c =
    let key : c.new-key.result ≡ c.args.name.now = c.new-key.ensures ∙ c.in_ok-clone_in.ensures in
    let there = sym c.get_mut.ensures.value ∙ ap option_copied_mut c.in-Some.is in
    let new = c.add_text.new.self in
    let fields : FieldLists = c.args.fields.now.entries in
    let spelled = cut_words c.args.cut c.args.text.now in
    on_ok_weaker c.add_text.result
    (λ adds.
    subst (λ (n : List ℕ). AddsPlaces c.args.row (placed_from 0 n spelled) fields (c.get_mut.follows.lender new).entries) key
    (subst (λ (l : FieldLists). AddsPlaces c.args.row (placed_from 0 c.new-key.result spelled) fields l) (sym (c.get_mut.follows.holds new).0)
    (field_set c.args.row c.new-key.result spelled c.in-Some.words.now new fields there adds)))
    c.add_text.ensures

pub returns : goal.returns
returns c =
    let key : c.new-key.result ≡ c.args.name.now = c.new-key.ensures ∙ c.in_ok-clone_in.ensures in
    let none = sym c.get_mut.ensures.value ∙ ap option_copied_mut c.in_default.is in
    let new = c.add_text-2.new.self in
    let fields : FieldLists = c.args.fields.now.entries in
    let spelled = cut_words c.args.cut c.args.text.now in
    let adds : AddsWords c.args.row spelled [] new = subst (λ (l : WordLists). AddsWords c.args.row spelled l new) c.new-words.ensures c.in_ok-add_text.ensures in
    let after = c.in_ok-insert.ensures.entries ∙ ap (λ (m : BTreeMap (List ℕ) WordLists). insert_entry (slice_cmp nat_cmp) m.entries c.new-key.result new) c.get_mut.follows.holds-at-none in
    subst (λ (n : List ℕ). AddsPlaces c.args.row (placed_from 0 n spelled) fields c.insert.new.self.entries) key
    (subst (λ (l : FieldLists). AddsPlaces c.args.row (placed_from 0 c.new-key.result spelled) fields l) (sym after)
    (field_insert c.args.row c.new-key.result spelled new fields none adds))
