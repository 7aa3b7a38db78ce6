use Rattle.std.proofs.Common.{subst}
use Rattle.ix_base.specs.Spelling.{IsText}
use Rattle.segment_files.specs.Fits.{DocumentFits}
use Rattle.segment_files.proofs.documents.put_document.Goals as goal

pub returns-clause-fits : goal.returns-clause-fits
returns-clause-fits c = subst DocumentFits c.doc.view_is (record {
  key = subst IsText c.as_str.ensures.bytes c.in_ok-put_text.ensures.text;
  text_count = c.put_fields.ensures.count;
  text = c.in_ok-put_fields.ensures.fits;
  text_rises = c.put_fields.ensures.rise;
  exact_count = c.put_fields-2.ensures.count;
  exact = c.in_ok-put_fields-2.ensures.fits;
  exact_rises = c.put_fields-2.ensures.rise;
  num_count = c.in_ok-put_numbers.ensures.count;
  num = c.in_ok-put_numbers.ensures.fits;
  num_rises = c.put_numbers.ensures.rise;
  apart = c.doc.invariant;
})
