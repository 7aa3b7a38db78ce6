use Rattle.std.proofs.Common.{◌≡◌, ◌<◌, ◌^◌, List, length}
use Rattle.std.proofs.lemmas.Result.{IfOk-weaker}
use Rattle.ix_base.specs.Documents.{Document}
use Rattle.ix_base.specs.Inversion.{IsInversion}
use Rattle.query_core.specs.Answers.{ArePositions}
use Rattle.segment_core.specs.Segments.{documents}
use Rattle.segment_core.proofs.segment.SegmentInverted.places.Goals as goal

pub returns : goal.returns
returns c =
    let segment = c.args.self.now in
    IfOk-weaker c.places_in.result _ (λ places. (docs : List Document) → (docs ≡ documents segment.rows) × (length segment.rows < 2 ^ 32) × IsInversion docs segment.postings → ArePositions docs c.args.term.now c.args.row places.items)
    (λ places h docs inverts. h docs inverts.2) c.places_in.ensures
