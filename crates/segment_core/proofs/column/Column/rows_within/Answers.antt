use Rattle.std.proofs.Common.{◌≡◌, ◌∙◌, ℕ, List, map, take, sym, ap, subst, arith}
use Rattle.std.proofs.lemmas.List.{take_all}
use Rattle.ix_base.specs.Inversion.{has_number}
use Rattle.segment_core.specs.declared.column.Entry.{Entry}
use Rattle.segment_core.proofs.Halving.{Rise, kept_of, column_rows}
use Rattle.segment_core.proofs.column.Column.rows_within.Goals as goal

pub returns : goal.returns
returns c = λ stored is few row.
    let column = c.args.self.now in
    let low = c.args.low.now in
    let high = c.args.high.now in
    let items = c.entries_within-entry-items.result.now in
    let row_of : Entry → ℕ = λ e. e.row in
    let all : take c.loop-entry.entry-index items ≡ items = take_all c.loop-entry.entry-index items (omega (arith, c.loop-entry-test.false)) in
    let kept = c.entries_within-entry-items.ensures (subst Rise (sym c.as_slice.ensures) is.rise) ∙ ap (kept_of low high) c.as_slice.ensures in
    ap (λ (l : List ℕ). has_number l row) (c.loop-entry.invariant ∙ ap (map row_of) (all ∙ kept))
    ∙ column_rows low high stored column is few row
