use Rattle.std.proofs.Common.{ap, arith}
use Rattle.segment_core.specs.LiveRows.{Lived, live}
use Rattle.store_answers.specs.Own.{born_up_to}
use Rattle.store_answers.proofs.EarlierRows.{segment_more}
use Rattle.store_answers.proofs.own.earlier.Goals as goal

pub loop-segment-preserved : goal.loop-segment-preserved
loop-segment-preserved c =
    let base = c.args.base in
    let segments = c.args.segments.now in
    let i = c.loop-segment.segment-index in
    let one = ap (λ (g : Lived). born_up_to base (live g)) c.segment-item.is in
    omega (
      arith,
      c.loop-segment.invariant,
      c.saturating_add-count.ensures,
      c.earlier_in.ensures,
      one,
      segment_more base segments i c.segment-item.result c.loop-segment-test.true,
    )
