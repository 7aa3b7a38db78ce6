use Rattle.std.proofs.Common.{◌≡◌, ◌∙◌, ◌<◌, ◌≤◌, ℕ, List, length, sym, ap, arith}
use Rattle.std.proofs.lemmas.List.{get_or_past}
use Rattle.live_docs.specs.declared.live_docs.Mark.{Mark}
use Rattle.live_docs.specs.Marks.{Marks, fresh, value_of}
use Rattle.live_docs.specs.Flags.{values_at}
use Rattle.live_docs.proofs.FlaggedMarks.{rows_are}
use Rattle.live_docs.proofs.live_docs.LiveDocs.value.Goals as goal

pub values-requires : goal.values-requires
values-requires c =
    let same = rows_are (values_at c.self.inside.numbers) c.self.inside.flags.items c.self.inside.applied _ c.self.view_is in
    omega (arith, same, c.len.ensures, c.if-row-len.true)

pub returns-else-row-len : goal.returns-else-row-len
returns-else-row-len c =
    let same = rows_are (values_at c.self.inside.numbers) c.self.inside.flags.items c.self.inside.applied _ c.self.view_is in
    let past : length c.args.self.now.marks ≤ c.args.row = omega (arith, same, c.len.ensures, c.if-row-len.false) in
    sym (ap (λ (m : Mark). value_of c.args.name.now m.values) (get_or_past c.args.self.now.marks c.args.row fresh past))
