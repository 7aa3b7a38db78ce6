use Rattle.std.proofs.Common.{◌≡◌, ◌∙◌, ℕ, List, length, ap, sym, subst, arith}
use Rattle.std.proofs.Math.ListN.{length-map}
use Rattle.ix_base.specs.Inversion.{IsInversion}
use Rattle.ix_base.specs.declared.document.Row.{Row}
use Rattle.segment_core.specs.Segments.{documents}
use Rattle.segment_files.specs.Fits.{PostingsFit, RowsBelow}
use Rattle.segment_files.proofs.PostLaws.{inverted_below}
use Rattle.segment_files.specs.Spelling.{posts_file}
use Rattle.index_check.proofs.Compared.{bytes_compared}
use Rattle.index_check.proofs.comparing.other_in.Goals as goal

pub encode_pst-requires-clause-below : goal.encode_pst-requires-clause-below
encode_pst-requires-clause-below c =
    let rows = c.args.segment.now.rows in
    let inversion = c.in_ok-inversion.inversion in
    let is : IsInversion (documents rows) inversion = subst (λ (rs : List Row). IsInversion (documents rs) inversion) c.as_slice.ensures c.in_ok-inversion.ensures in
    let count : length (documents rows) ≡ c.len-row_count.result = length-map rows (λ (r : Row). r.doc) ∙ sym c.len-row_count.ensures in
    subst (λ (n : ℕ). RowsBelow n inversion) count (inverted_below (documents rows) inversion is)

pub returns : goal.returns
returns c =
    let segment = c.args.segment.now in
    let rows = segment.rows in
    let inversion = c.in_ok-inversion.inversion in
    let is : IsInversion (documents rows) inversion = subst (λ (rs : List Row). IsInversion (documents rs) inversion) c.as_slice.ensures c.in_ok-inversion.ensures in
    let count : c.len-row_count.result ≡ length rows = c.len-row_count.ensures in
    let fits : PostingsFit (length rows) inversion = subst (λ (n : ℕ). PostingsFit n inversion) count c.in_ok-wanted.ensures.fits in
    bytes_compared segment inversion c.as_slice-2.result.now c.as_slice-3.result.now c.first_difference.result (omega arith) c.requires.few c.requires.fits fits is
    (c.as_slice-2.ensures.value ∙ c.in_ok-found.ensures.file ∙ ap (λ (n : ℕ). posts_file segment.id n segment.postings) count)
    (c.as_slice-3.ensures.value ∙ c.in_ok-wanted.ensures.file ∙ ap (λ (n : ℕ). posts_file segment.id n inversion) count)
    c.first_difference.ensures
