use Rattle.std.proofs.Common.{ap, ◌∙◌}
use Rattle.ix_base.proofs.WriteLoops.{all_more, all_over}
use Rattle.live_docs.specs.Marks.{Marks, count_live}
use Rattle.segment_core.specs.LiveRows.{Lived, IsWhole}
use Rattle.commit_point.proofs.LiveCounts.{next_docs, all_docs, listed_docs}
use Rattle.commit_point.proofs.prepare.live_rows.Goals as goal

pub loop-segment-preserved : goal.loop-segment-preserved
loop-segment-preserved c = record {
  rows = next_docs c.args.segments.now c.loop-segment.segment-index c.segment-item.result c.loop-segment.count c.from.result c.saturating_add-count.result
      c.loop-segment-test.true c.segment-item.is c.live.ensures.whole (c.from.ensures ∙ c.live_count.ensures ∙ ap (λ (m : Marks). count_live m.marks) c.live.ensures.live) c.saturating_add-count.ensures c.loop-segment.invariant.rows;
  whole = all_more (λ (g : Lived). IsWhole g.segment g.live) c.args.segments.now c.loop-segment.segment-index c.segment-item.result c.loop-segment-test.true c.segment-item.is c.loop-segment.invariant.whole c.live.ensures.whole;
}

pub returns-clause-rows : goal.returns-clause-rows
returns-clause-rows c = all_docs c.args.segments.now c.loop-segment.segment-index c.loop-segment.count c.loop-segment-test.false c.loop-segment.invariant.rows

pub returns-clause-listed : goal.returns-clause-listed
returns-clause-listed c =
    all_docs c.args.segments.now c.loop-segment.segment-index c.loop-segment.count c.loop-segment-test.false c.loop-segment.invariant.rows
    ∙ listed_docs c.args.segments.now (all_over (λ (g : Lived). IsWhole g.segment g.live) c.args.segments.now c.loop-segment.segment-index c.loop-segment-test.false c.loop-segment.invariant.whole)
