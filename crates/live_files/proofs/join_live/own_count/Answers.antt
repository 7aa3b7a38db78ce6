use Rattle.std.proofs.Common.{◌∙◌, refl, sym, arith}
use Rattle.live_files.proofs.JoinLive.{own_more, own_stops, own_ends}
use Rattle.live_files.proofs.join_live.own_count.Goals as goal

pub loop-i-init : goal.loop-i-init
loop-i-init c = record { own = refl; others = refl }

pub loop-i-preserved : goal.loop-i-preserved
loop-i-preserved c = own_more c.args.row c.args.values.now c.loop-i.i c.index-values-i.result c.loop-i-test.true c.index-values-i.is (sym c.is_in_row.ensures ∙ c.if-not-is_in_row.false) c.loop-i.invariant

pub returns-then-not-is_in_row-clause-own : goal.returns-then-not-is_in_row-clause-own
returns-then-not-is_in_row-clause-own c = (own_stops c.args.row c.args.values.now c.loop-i.i c.index-values-i.result c.loop-i-test.true c.index-values-i.is (sym c.is_in_row.ensures ∙ c.if-not-is_in_row.true) c.loop-i.invariant).own

pub returns-then-not-is_in_row-clause-others : goal.returns-then-not-is_in_row-clause-others
returns-then-not-is_in_row-clause-others c = (own_stops c.args.row c.args.values.now c.loop-i.i c.index-values-i.result c.loop-i-test.true c.index-values-i.is (sym c.is_in_row.ensures ∙ c.if-not-is_in_row.true) c.loop-i.invariant).others

pub returns-clause-own : goal.returns-clause-own
returns-clause-own c = (own_ends c.args.row c.args.values.now c.loop-i.i _ (omega arith) (omega arith) c.loop-i.invariant).own

pub returns-clause-others : goal.returns-clause-others
returns-clause-others c = (own_ends c.args.row c.args.values.now c.loop-i.i _ (omega arith) (omega arith) c.loop-i.invariant).others
