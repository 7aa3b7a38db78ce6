use Rattle.std.proofs.Common.{List, Bool, refl}
use Rattle.std.proofs.lemmas.Result.{IfOk-weaker}
use Rattle.ix_base.specs.Documents.{Document}
use Rattle.ix_base.specs.Matches.{holds_term}
use Rattle.segment_core.proofs.FoundNow.{found_current}
use Rattle.segment_core.proofs.current.CurrentInverted.holding_from.Goals as goal

pub returns : goal.returns
returns g c =
    let rows = c.args.self.now.rows.now in
    let marks = c.args.self.now.live.now.marks in
    let inverts : List Document → Type 0 = g.I.Inverted.inverts c.args.self.now.index.now in
    let test : Document → Bool = holds_term c.args.term.now.field c.args.term.now.bytes in
    IfOk-weaker c.holding_from.result _ _ (λ found h docs i. found_current inverts test (λ doc m. refl) rows marks found.items h docs i.0 i.1 i.2) c.holding_from.ensures
