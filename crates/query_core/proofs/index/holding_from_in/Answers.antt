use Rattle.std.proofs.Common.{◌∙◌}
use Rattle.ix_base.specs.Inversion.{IsInversion}
use Rattle.ix_base.specs.Matches.{holds_term}
use Rattle.query_core.specs.Answers.{AreRowsWhere}
use Rattle.std.proofs.lemmas.Result.{IfOk-weaker}
use Rattle.query_core.proofs.InPostings.{rows_of_term_in, rows_of_none, none_among}
use Rattle.query_core.proofs.index.holding_from_in.Goals as goal

pub returns-in-Some : goal.returns-in-Some
returns-in-Some c =
    let postings = c.args.postings.now in
    let term = c.args.term.now in
    let entries = c.as_slice-entries.result.now in
    let i = c.in-Some.i in
    let d = c.index-entries-i.result in
    let found = c.in-Some.ensures.found in
    IfOk-weaker c.rows.result _ (λ rows. AreRowsWhere (λ docs. IsInversion docs postings) (holds_term term.field term.bytes) rows.items)
    (λ rows is docs inversion. is ∙ rows_of_term_in docs postings entries i d term inversion c.as_slice-entries.ensures found.0 (found.1 d))
    c.rows.ensures.rows

pub returns-in-None : goal.returns-in-None
returns-in-None c = λ docs inversion.
    let postings = c.args.postings.now in
    let term = c.args.term.now in
    c.new.ensures.items ∙ rows_of_none docs postings term inversion (none_among postings c.as_slice-entries.result.now term c.as_slice-entries.ensures inversion.ordered c.in-None.ensures.none)
