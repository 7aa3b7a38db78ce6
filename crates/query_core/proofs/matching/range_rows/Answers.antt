use Rattle.std.proofs.Common.{◌∙◌, Bool, List, IfSome, ap, subst}
use Rattle.std.specs.List.{filter}
use Rattle.std.proofs.lemmas.Result.{IfOk-weaker}
use Rattle.ix_base.specs.Documents.{Document}
use Rattle.ix_base.specs.Matches.{matches}
use Rattle.ix_base.specs.Tree.{range}
use Rattle.ix_base.specs.Inversion.{at_row}
use Rattle.query_core.specs.Answers.{AreRowsWhere, AreCandidates}
use Rattle.query_core.proofs.Ranged.{of_candidates, of_all}
use Rattle.query_core.proofs.matching.range_rows.Goals as goal

pub returns-in-Some : goal.returns-in-Some
returns-in-Some g c =
    let inverts : List Document → Type 0 = g.I.Inverted.inverts c.args.index.now in
    let test : Document → Bool = matches (range c.args.name.now c.args.low.now c.args.high.now) in
    let given : IfSome c.in_ok-rows.field-0 (λ found. AreCandidates inverts test found.items) = c.in_ok-rows.ensures in
    let are : AreCandidates inverts test c.in-Some.rows.items = subst (λ o. IfSome o (λ found. AreCandidates inverts test found.items)) c.in-Some.is given in
    IfOk-weaker c.kept_within.result _ (λ rows. AreRowsWhere inverts test rows.items)
    (λ kept h docs i. h docs i ∙ (ap (filter (at_row test docs)) c.as_slice.ensures.value ∙ of_candidates test docs c.in-Some.rows.items are.0 (are.1 docs i))) c.kept_within.ensures

pub returns-in_ok-rows-in-None : goal.returns-in_ok-rows-in-None
returns-in_ok-rows-in-None g c =
    let inverts : List Document → Type 0 = g.I.Inverted.inverts c.args.index.now in
    let test : Document → Bool = matches (range c.args.name.now c.args.low.now c.args.high.now) in
    IfOk-weaker c.kept_within-in-None.result _ (λ rows. AreRowsWhere inverts test rows.items)
    (λ kept h docs i. h docs i ∙ (ap (filter (at_row test docs)) (c.as_slice-in-None.ensures.value ∙ c.in_ok-rows-in-None.ensures docs i) ∙ of_all test docs)) c.kept_within-in-None.ensures
