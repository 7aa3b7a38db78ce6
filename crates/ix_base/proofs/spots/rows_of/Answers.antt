use Rattle.std.proofs.Common.{rules}
use Rattle.ix_base.proofs.Grouping.{rows_step}
use Rattle.ix_base.proofs.spots.rows_of.Goals as goal

pub loop-spot-preserved : goal.loop-spot-preserved
loop-spot-preserved c = rows_step c.args.spots.now c.loop-spot.spot-index c.loop-spot.rows.items c.add_row.new.rows.items _ (search rules) c.loop-spot.invariant c.in_ok-add_row.ensures
