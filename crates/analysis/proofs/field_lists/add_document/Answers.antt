use Rattle.std.proofs.Common.{◌≡◌, ℕ, List, codes, map, true, sym, subst}
use Rattle.std.specs.List.{flat_map}
use Rattle.std.proofs.lemmas.Result.{on_ok_weaker}
use Rattle.ix_base.specs.Documents.{Document}
use Rattle.ix_base.specs.Limits.{is_among}
use Rattle.ix_base.specs.Terms.{terms}
use Rattle.analysis.specs.Kept.{AddsPlaces, IsFieldBelow, cut_places}
use Rattle.analysis.specs.declared.word_lists.Cut.TheVariants.{Whole, Words}
use Rattle.analysis.proofs.FieldsInOrder.{text_below, adds_document}
use Rattle.analysis.proofs.field_lists.add_document.Goals as goal

abbrev Pair : Type 0
Pair = List ℕ × List ℕ

pub add_fields-requires-2-clause-below : goal.add_fields-requires-2-clause-below
add_fields-requires-2-clause-below c =
    let inside = c.doc.inside in
    let first : AddsPlaces c.args.row (cut_places Whole (codes "key", inside.key)) c.args.fields.now.entries c.add_field.new.fields.entries =
    subst (λ (n : List ℕ). AddsPlaces c.args.row (cut_places Whole (n, inside.key)) c.args.fields.now.entries c.add_field.new.fields.entries) c.in_ok-key.ensures c.in_ok-add_field.ensures in
    let second : AddsPlaces c.args.row (flat_map (cut_places Whole) inside.exact) c.add_field.new.fields.entries c.add_fields.new.fields.entries =
    subst (λ (l : List Pair). AddsPlaces c.args.row (flat_map (cut_places Whole) l) c.add_field.new.fields.entries c.add_fields.new.fields.entries) c.as_slice.ensures.pairs c.in_ok-add_fields.ensures in
    subst (λ (l : List Pair). (field : List ℕ) → is_among (map (λ (pair : Pair). pair.0) l) field ≡ true → IsFieldBelow c.args.row field c.add_fields.new.fields.entries) (sym c.as_slice-2.ensures.pairs)
    (text_below c.args.row inside.key inside.text inside.exact c.args.fields.now.entries c.add_field.new.fields.entries c.add_fields.new.fields.entries c.doc.invariant c.requires first second)

pub returns : goal.returns
returns c =
    let inside = c.doc.inside in
    let doc : Document = record { key = inside.key; text = inside.text; exact = inside.exact; num = inside.num } in
    let old = c.args.fields.now.entries in
    let last = c.add_fields-2.new.fields.entries in
    let first : AddsPlaces c.args.row (cut_places Whole (codes "key", inside.key)) old c.add_field.new.fields.entries =
    subst (λ (n : List ℕ). AddsPlaces c.args.row (cut_places Whole (n, inside.key)) old c.add_field.new.fields.entries) c.in_ok-key.ensures c.in_ok-add_field.ensures in
    let second : AddsPlaces c.args.row (flat_map (cut_places Whole) inside.exact) c.add_field.new.fields.entries c.add_fields.new.fields.entries =
    subst (λ (l : List Pair). AddsPlaces c.args.row (flat_map (cut_places Whole) l) c.add_field.new.fields.entries c.add_fields.new.fields.entries) c.as_slice.ensures.pairs c.in_ok-add_fields.ensures in
    on_ok_weaker c.add_fields-2.result
    (λ adds.
    subst (λ (d : Document). AddsPlaces c.args.row (terms d) old last) c.doc.view_is
    (adds_document c.args.row doc old c.add_field.new.fields.entries c.add_fields.new.fields.entries last first second
    (subst (λ (l : List Pair). AddsPlaces c.args.row (flat_map (cut_places Words) l) c.add_fields.new.fields.entries last) c.as_slice-2.ensures.pairs adds)))
    c.add_fields-2.ensures
