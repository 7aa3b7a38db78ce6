use Rattle.std.proofs.Common.{List}
use Rattle.std.proofs.lemmas.Result.{IfOk-weaker}
use Rattle.ix_base.specs.Documents.{Document}
use Rattle.segment_core.proofs.FoundNow.{places_current}
use Rattle.segment_core.proofs.current.CurrentInverted.places.Goals as goal

pub returns : goal.returns
returns g c =
    let rows = c.args.self.now.rows.now in
    let marks = c.args.self.now.live.now.marks in
    let inverts : List Document → Type 0 = g.I.Inverted.inverts c.args.self.now.index.now in
    IfOk-weaker c.places.result _ _ (λ places h docs i. places_current inverts c.args.term.now c.args.row rows marks places.items h docs i.0 i.1 i.2) c.places.ensures
