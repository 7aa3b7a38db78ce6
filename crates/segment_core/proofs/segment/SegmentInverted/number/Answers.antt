use Rattle.std.proofs.Common.{◌∙◌, List, sym, ap}
use Rattle.ix_base.specs.Documents.{Document}
use Rattle.ix_base.specs.declared.document.Row.{Row}
use Rattle.query_core.specs.Answers.{number_at}
use Rattle.segment_core.specs.Segments.{documents}
use Rattle.segment_core.proofs.segment.SegmentInverted.number.Goals as goal

pub returns : goal.returns
returns c = λ docs inverts.
    c.own_number.ensures
    ∙ ap (λ (rows : List Row). number_at (documents rows) c.args.row c.args.name.now) c.as_slice.ensures
    ∙ ap (λ (ds : List Document). number_at ds c.args.row c.args.name.now) (sym inverts.0)
