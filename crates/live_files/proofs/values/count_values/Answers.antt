use Rattle.live_files.proofs.NumberedValues.{numbers_at, row_there, count_more, count_all}
use Rattle.live_files.proofs.values.count_values.Goals as goal

pub values-requires : goal.values-requires
values-requires c = row_there c.args.live.now.marks c.args.numbered.now c.loop-row.row-index c.requires c.loop-row-test.true

pub loop-row-preserved : goal.loop-row-preserved
loop-row-preserved c =
    count_more (numbers_at c.args.live.now.marks) c.args.numbered.now c.loop-row.row-index c.loop-row.count c.saturating_add-count.result c.values.result.now
    c.loop-row-test.true c.values.ensures.values c.saturating_add-count.ensures c.loop-row.invariant

pub returns : goal.returns
returns c = count_all c.args.live.now.marks c.args.numbered.now c.loop-row.row-index c.loop-row.count c.requires c.loop-row-test.false c.loop-row.invariant
