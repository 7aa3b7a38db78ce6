use Rattle.std.proofs.Common.{List, subst}
use Rattle.std.proofs.lemmas.List.{take_all}
use Rattle.std.specs.List.{AllByRecursion}
use Rattle.ix_base.specs.Steps.{Named}
use Rattle.live_files.specs.LiveFits.{ValueFits}
use Rattle.live_files.specs.LiveSpelling.{row_values}
use Rattle.live_files.proofs.ValuesWrite.{pair_bytes, pair_fits}
use Rattle.live_files.proofs.values.put_row_values.Goals as goal

pub loop-pair-preserved : goal.loop-pair-preserved
loop-pair-preserved c = record {
  bytes = pair_bytes c.args.row c.args.pairs.now c.loop-pair.pair-index c.pair-item.result c.args.out.now.items c.loop-pair.out.items c.put_value.new.out.items c.loop-pair-test.true c.pair-item.is c.loop-pair.invariant.bytes c.in_ok-put_value.ensures.bytes;
  fits = λ n lt. pair_fits n c.args.row c.args.pairs.now c.loop-pair.pair-index c.pair-item.result c.loop-pair-test.true c.pair-item.is (c.loop-pair.invariant.fits n lt) (c.in_ok-put_value.ensures.fits n lt);
}

pub returns-clause-fits : goal.returns-clause-fits
returns-clause-fits c = λ n lt. subst (λ (pairs : List Named). AllByRecursion (ValueFits n) (row_values c.args.row pairs)) (take_all c.loop-pair.pair-index c.args.pairs.now c.loop-pair-test.false) (c.loop-pair.invariant.fits n lt)
