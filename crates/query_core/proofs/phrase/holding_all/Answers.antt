use Rattle.std.proofs.Common.{◌≡◌, ◌∙◌, sym, subst, get_or}
use Rattle.std.proofs.lemmas.Bool.{eqb-true}
use Rattle.std.proofs.lemmas.List.{nil_from_length}
use Rattle.ix_base.specs.Matches.{holds_term}
use Rattle.std.specs.List.{filter}
use Rattle.ix_base.specs.Inversion.{rows_where, has_number}
use Rattle.ix_base.specs.declared.document.Term.{Term}
use Rattle.query_core.proofs.Joining.{holds_next, of_slices}
use Rattle.query_core.proofs.Phrases.{none_hold}
use Rattle.query_core.proofs.phrase.holding_all.Goals as goal

pub loop-i-preserved : goal.loop-i-preserved
loop-i-preserved g c = λ docs inverts.
    let terms = c.args.terms.now in
    let i = c.loop-i.i in
    let same : c.term-in-loop-i.result.now ≡ get_or terms i c.index-terms-i.result = c.term-in-loop-i.ensures ∙ c.index-terms-i.is in
    holds_next terms i c.index-terms-i.result docs c.loop-i.rows.items c.in_ok-holding.holding.items c.in_ok-rows-2.rows.items c.loop-i-test.true
    (c.loop-i.invariant docs inverts) (subst (λ (t : Term). c.in_ok-holding.holding.items ≡ rows_where (holds_term t.field t.bytes) docs) same (c.in_ok-holding.ensures docs inverts))
    (of_slices (λ others numbers. filter (has_number others) numbers) c.in_ok-rows-2.rows.items c.loop-i.rows.items c.in_ok-holding.holding.items c.as_slice.result.now c.as_slice-in-loop-i.result.now c.as_slice.ensures.value c.as_slice-in-loop-i.ensures.value c.in_ok-rows-2.ensures)

pub returns-then-is_empty : goal.returns-then-is_empty
returns-then-is_empty g c = λ docs inverts.
    let rows = c.loop-i.rows in
    none_hold c.args.terms.now c.loop-i.i docs rows.items
    (nil_from_length rows.items (sym rows.ok.0 ∙ eqb-true rows.len 0 (sym c.is_empty.ensures ∙ c.if-is_empty.true))) (c.loop-i.invariant docs inverts)
