use Rattle.std.proofs.Common.{◌≡◌, length, refl}
use Rattle.std.proofs.lemmas.Result.{IfOk-weaker}
use Rattle.ix_base.specs.Inversion.{rows_where}
use Rattle.ix_base.specs.Matches.{matches}
use Rattle.ix_base.specs.Query.{tree_of}
use Rattle.segment_core.specs.Segments.{documents}
use Rattle.segment_core.specs.Marking.{documents_now}
use Rattle.segment_core.proofs.applying.matching.Goals as goal

pub returns : goal.returns
returns g c =
    let rows = c.args.rows.now in
    let marks = c.args.live.now.marks in
    IfOk-weaker c.answer.result _ (λ found. g.I.Inverted.inverts c.args.index.now (documents rows) → length marks ≡ length rows → found.items ≡ rows_where (matches (tree_of c.args.query.now)) (documents_now rows marks))
    (λ found h inverts long. h (documents_now rows marks) (inverts, long, refl, c.requires)) c.answer.ensures
