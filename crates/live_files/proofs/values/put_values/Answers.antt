use Rattle.std.proofs.Common.{◌++◌, List, ap, ◌∙◌}
use Rattle.std.specs.List.{flat_map}
use Rattle.live_files.specs.LiveSpelling.{SetValue, value_bytes}
use Rattle.live_files.proofs.NumberedValues.{numbers_at, row_there, row_bytes, row_fits, row_rises, all_values, all_fit, all_rise}
use Rattle.live_files.proofs.values.put_values.Goals as goal

pub values-requires : goal.values-requires
values-requires c = row_there c.args.live.now.marks c.args.numbered.now c.loop-row.row-index c.requires c.loop-row-test.true

pub loop-row-preserved : goal.loop-row-preserved
loop-row-preserved c =
    let there = row_there c.args.live.now.marks c.args.numbered.now c.loop-row.row-index c.requires c.loop-row-test.true in
    record {
      bytes = row_bytes (numbers_at c.args.live.now.marks) c.args.numbered.now c.loop-row.row-index c.values.result.now c.args.out.now.items c.loop-row.out.items c.put_row_values.new.out.items
          c.loop-row-test.true c.values.ensures.values c.loop-row.invariant.bytes c.in_ok-put_row_values.ensures.bytes;
      fits = row_fits _ (numbers_at c.args.live.now.marks) c.args.numbered.now c.loop-row.row-index c.values.result.now
          c.loop-row-test.true c.values.ensures.values c.loop-row.invariant.fits (c.in_ok-put_row_values.ensures.fits _ there);
      rise = row_rises (numbers_at c.args.live.now.marks) c.args.numbered.now c.loop-row.row-index c.values.result.now
          c.loop-row-test.true c.values.ensures.values c.values.ensures.rise c.loop-row.invariant.rise;
    }

pub returns-clause-bytes : goal.returns-clause-bytes
returns-clause-bytes c =
    c.loop-row.invariant.bytes
    ∙ ap (λ (values : List SetValue). c.args.out.now.items ++ flat_map value_bytes values) (all_values c.args.live.now.marks c.args.numbered.now c.loop-row.row-index c.requires c.loop-row-test.false)

pub returns-clause-fits : goal.returns-clause-fits
returns-clause-fits c = all_fit _ c.args.live.now.marks c.args.numbered.now c.loop-row.row-index c.requires c.loop-row-test.false c.loop-row.invariant.fits

pub returns-clause-rise : goal.returns-clause-rise
returns-clause-rise c = all_rise c.args.live.now.marks c.args.numbered.now c.loop-row.row-index c.requires c.loop-row-test.false c.loop-row.invariant.rise
