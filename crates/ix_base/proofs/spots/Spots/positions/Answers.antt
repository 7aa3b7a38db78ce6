use Rattle.std.proofs.Common.{◌≡◌, ◌∙◌, sym, ap, subst, []}
use Rattle.std.proofs.lemmas.Result.{IfOk-weaker}
use Rattle.ix_base.specs.Grouped.{positions_at, positions_in, IsByRow}
use Rattle.ix_base.proofs.Grouping.{positions_are}
use Rattle.ix_base.proofs.Searching.{by_row}
use Rattle.ix_base.proofs.spots.Spots.positions.Goals as goal

pub from_row-from-requires : goal.from_row-from-requires
from_row-from-requires c = subst IsByRow (sym c.as_slice.ensures) (by_row c.self.inside.spots.list.items c.self.invariant.rise)

pub returns : goal.returns
returns c =
    let row = c.args.row in
    let spots = c.self.inside.spots.list.items in
    IfOk-weaker c.positions_of.result _ (λ positions. positions.items ≡ positions_in row c.args.self.now)
    (λ positions is.
    is ∙ c.in_row.ensures ∙ c.from_row-from.ensures.same
    ∙ ap (positions_at row) c.as_slice.ensures
    ∙ sym (positions_are row [] spots)
    ∙ ap (positions_in row) c.self.view_is)
    c.positions_of.ensures
