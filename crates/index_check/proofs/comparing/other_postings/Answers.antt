use Rattle.std.proofs.Common.{subst, sym}
use Rattle.std.specs.Prelude.{MatchOption}
use Rattle.segment_core.specs.LiveRows.{Lived}
use Rattle.segment_core.specs.Segments.{IsInverted}
use Rattle.segment_core.specs.declared.segment.Segment.{Segment}
use Rattle.index_check.specs.Difference.{IsOtherAt}
use Rattle.index_check.proofs.Compared.{other_among}
use Rattle.index_check.proofs.comparing.other_postings.Goals as goal

pub returns-then-is_some : goal.returns-then-is_some
returns-then-is_some c =
    let found = subst (λ (s : Segment). MatchOption c.in_ok-other.other (IsInverted s) (IsOtherAt s)) c.segment.ensures c.in_ok-other.ensures in
    other_among (λ (g : Lived). IsInverted g.segment) c.args.segments.now c.loop-segment.segment-index c.segment-item.result c.in_ok-other.other
    c.loop-segment-test.true c.segment-item.is c.loop-segment.invariant found (sym c.if-is_some.ensures)
