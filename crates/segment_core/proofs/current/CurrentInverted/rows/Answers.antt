use Rattle.std.proofs.Common.{◌∙◌, length, sym, ap}
use Rattle.segment_core.specs.Segments.{documents}
use Rattle.segment_core.proofs.FoundNow.{length-documents_now}
use Rattle.segment_core.proofs.current.CurrentInverted.rows.Goals as goal

pub returns : goal.returns
returns g c = λ docs h.
    let rows = c.args.self.now.rows.now in
    let marks = c.args.self.now.live.now.marks in
    c.rows.ensures (documents rows) h.0 ∙ (sym (length-documents_now rows marks h.1) ∙ ap length (sym h.2))
