use Rattle.std.proofs.Common.{length, rules}
use Rattle.ix_base.specs.Spelling.{be64}
use Rattle.segment_files.specs.Spelling.{number_bytes}
use Rattle.segment_files.specs.Fits.{NumberFits}
use Rattle.ix_base.proofs.WriteLoops.{one_more, all_done, all_more, all_over}
use Rattle.segment_files.proofs.documents.put_numbers.Goals as goal

pub loop-pair-preserved : goal.loop-pair-preserved
loop-pair-preserved c = record {
  bytes = one_more number_bytes c.args.out.now.items (be64 (length c.args.pairs.now)) c.args.pairs.now c.loop-pair.pair-index c.pair-item.result c.loop-pair.out.items _ (search rules) (search rules) (search rules) (search rules);
  fits = all_more NumberFits c.args.pairs.now c.loop-pair.pair-index c.pair-item.result (search rules) (search rules) c.loop-pair.invariant.fits c.in_ok-put_number.ensures.fits;
}

pub returns-clause-bytes : goal.returns-clause-bytes
returns-clause-bytes c = all_done number_bytes c.args.out.now.items (be64 (length c.args.pairs.now)) c.args.pairs.now c.loop-pair.pair-index _ (search rules) (search rules)

pub returns-clause-fits : goal.returns-clause-fits
returns-clause-fits c = all_over NumberFits c.args.pairs.now c.loop-pair.pair-index (search rules) c.loop-pair.invariant.fits
