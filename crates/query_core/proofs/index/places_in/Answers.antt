use Rattle.std.proofs.Common.{sym, subst, List}
use Rattle.ix_base.specs.Inversion.{IsInversion}
use Rattle.ix_base.specs.Documents.{Document}
use Rattle.query_core.specs.Answers.{ArePositions}
use Rattle.std.proofs.lemmas.Result.{IfOk-weaker}
use Rattle.query_core.proofs.InPostings.{places_of_row_in, places_of_none, none_among}
use Rattle.query_core.proofs.index.places_in.Goals as goal

pub returns-in-Some : goal.returns-in-Some
returns-in-Some c =
    let postings = c.args.postings.now in
    let term = c.args.term.now in
    let row = c.args.row in
    let entries = c.as_slice-entries.result.now in
    let i = c.in-Some.i in
    let d = c.index-entries-i.result in
    let found = c.in-Some.ensures.found in
    IfOk-weaker c.positions.result _ (λ places. (docs : List Document) → IsInversion docs postings → ArePositions docs term row places.items)
    (λ places is docs inversion. subst (ArePositions docs term row) (sym is) (places_of_row_in docs postings entries i d term row inversion c.as_slice-entries.ensures found.0 (found.1 d)))
    c.positions.ensures

pub returns-in-None : goal.returns-in-None
returns-in-None c = λ docs inversion.
    let postings = c.args.postings.now in
    let term = c.args.term.now in
    subst (ArePositions docs term c.args.row) (sym c.new.ensures.items) (places_of_none docs postings term c.args.row inversion (none_among postings c.as_slice-entries.result.now term c.as_slice-entries.ensures inversion.ordered c.in-None.ensures.none))
