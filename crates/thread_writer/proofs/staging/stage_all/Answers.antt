use Rattle.std.proofs.Common.{◌≡◌, ◌∙◌, ap, refl, sym, subst, take}
use Rattle.std.proofs.lemmas.Result.{err_from_is_err_and}
use Rattle.ix_base.specs.Documents.{Document}
use Rattle.thread_writer.specs.Answers.{RefusedExactly, told_for}
use Rattle.ix_base.specs.Refusals.{document_refusal, block_refusal}
use Rattle.ix_base.specs.declared.refusal.Refused.{Refused}
use Rattle.thread_writer.proofs.StagedDocuments.{refused_first, fits_next, rows_next, same_rows}
use Rattle.thread_writer.proofs.staging.stage_all.Goals as goal

pub returns-in_err-analysed-clause-refusal : goal.returns-in_err-analysed-clause-refusal
returns-in_err-analysed-clause-refusal c =
    let docs = c.args.docs.now in
    let refused = c.in_err-analysed.field-0.0 in
    let p = err_from_is_err_and c.from_residual.result c.from_residual.ensures.1 in
    let q = p.2 in
    let same : refused ≡ p.0 = cc in
    let here : RefusedExactly (told_for refused) (block_refusal docs) =
    refused_first refused docs c.loop-doc.doc-index c.doc-item.result c.loop-doc-test.true c.loop-doc.invariant.fits
    (subst (λ (d : Document). RefusedExactly (told_for refused) (document_refusal d)) c.doc-item.is c.in_err-analysed.ensures.refusal) in
    rw p.1 (subst (λ (e : Refused). RefusedExactly (told_for e) (block_refusal docs)) same here)

pub returns-in_err-analysed-clause-same : goal.returns-in_err-analysed-clause-same
returns-in_err-analysed-clause-same c =
    same_rows c.args.rows.now c.loop-doc.rows c.loop-doc.rows (take c.loop-doc.doc-index c.args.docs.now) refl c.loop-doc.invariant.rows

pub returns-in_err-stage-clause-same : goal.returns-in_err-stage-clause-same
returns-in_err-stage-clause-same c =
    same_rows c.args.rows.now c.loop-doc.rows c.stage.new.self (take c.loop-doc.doc-index c.args.docs.now) c.in_err-stage.ensures.err c.loop-doc.invariant.rows

pub loop-doc-preserved : goal.loop-doc-preserved
loop-doc-preserved c =
    let docs = c.args.docs.now in
    let i = c.loop-doc.doc-index in
    let d = c.doc-item.result in
    let doc = c.in_ok-analysed.ensures.doc in
    record {
      rows = rows_next c.args.rows.now c.loop-doc.rows c.stage.new.self docs i d c.in_ok-analysed.field-0.doc c.loop-doc-test.true c.loop-doc.invariant.rows
          c.in_ok-stage.ensures.ok (doc ∙ c.doc-item.is);
      fits = fits_next docs i d c.loop-doc-test.true c.loop-doc.invariant.fits (ap document_refusal (sym c.doc-item.is) ∙ c.in_ok-analysed.ensures.fits);
    }

pub returns-clause-same : goal.returns-clause-same
returns-clause-same c =
    same_rows c.args.rows.now c.loop-doc.rows c.loop-doc.rows (take c.loop-doc.doc-index c.args.docs.now) refl c.loop-doc.invariant.rows
