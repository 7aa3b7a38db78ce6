use Rattle.std.proofs.Common.{Some, None}
use Rattle.std.proofs.lemmas.Result.{err_from_is_err_and}
use Rattle.ix_base.proofs.ReadLoops.{goes_on_seen, ends_seen, is_done}
use Rattle.ix_base.specs.declared.postings.TermPostings.{TermPostings}
use Rattle.segment_files.specs.Reading.{term_at}
use Rattle.segment_files.proofs.read_terms.entry_list.Goals as goal

pub returns-in_err-entry : goal.returns-in_err-entry
returns-in_err-entry c =
    let p = err_from_is_err_and c.from_residual.result c.from_residual.ensures.1 in
    rw (p.1, p.2) (ends_seen (term_at c.args.row_count) (λ (entry : TermPostings). Some entry.term) None c.in_err-entry.field-0.0 c.deref.result.now c.loop.entries.items c.args.count c.loop.counter c.loop.rest.now _
    c.deref.ensures.value c.loop-test.true c.in_err-entry.ensures c.loop.invariant)

pub loop-preserved : goal.loop-preserved
loop-preserved c =
    rw c.in_ok-push.ensures.items (goes_on_seen (term_at c.args.row_count) (λ (entry : TermPostings). Some entry.term) None c.deref.result.now c.loop.entries.items c.args.count c.loop.counter c.loop.rest.now c.in_ok-entry.entry c.in_ok-entry.after.now _
    c.deref.ensures.value c.loop-test.true c.in_ok-entry.ensures c.loop.invariant)

pub returns : goal.returns
returns c = is_done (term_at c.args.row_count) (λ (entry : TermPostings). Some entry.term) None c.loop.entries.items c.args.count c.loop.counter c.loop.rest.now _ c.loop-test.false c.loop.invariant
