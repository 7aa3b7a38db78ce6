use Rattle.std.proofs.Common.{◌∙◌, ℤ, Option, refl, sym}
use Rattle.query_core.specs.Answers.{number_at}
use Rattle.segment_core.specs.Segments.{documents}
use Rattle.segment_core.proofs.FoundNow.{some_first, none_first, number_read}
use Rattle.segment_core.proofs.current.CurrentInverted.number.Goals as goal

pub returns-then-is_some : goal.returns-then-is_some
returns-then-is_some g c = λ docs h.
    let rows = c.args.self.now.rows.now in
    let other : Option ℤ = number_at (documents rows) c.args.row c.args.name.now in
    sym (some_first c.value-set.result other (sym c.is_some.ensures ∙ c.if-is_some.true))
    ∙ number_read c.set_numbers_are_a_map.ensures c.args.name.now rows c.args.self.now.live.now.marks c.args.row docs c.value-set.result other h.1 h.2 c.value-set.ensures refl

pub returns : goal.returns
returns g c = λ docs h.
    sym (none_first c.value-set.result c.own_number.result (sym c.is_some.ensures ∙ c.if-is_some.false))
    ∙ number_read c.set_numbers_are_a_map.ensures c.args.name.now c.args.self.now.rows.now c.args.self.now.live.now.marks c.args.row docs c.value-set.result c.own_number.result h.1 h.2 c.value-set.ensures c.own_number.ensures
