use Rattle.std.proofs.Common.{◌<◌, List, [], All, length, get_or, sym, ap, ◌∙◌, subst, arith}
use Rattle.std.specs.List.{AllZip, list_any, filter}
use Rattle.std.proofs.lemmas.Result.{IfOk-weaker}
use Rattle.ix_base.specs.Terms.{terms}
use Rattle.ix_base.specs.Inversion.{at_row}
use Rattle.ix_base.specs.declared.document.Term.{Term}
use Rattle.query_core.specs.Answers.{IsRising, ArePositions, terms_stand_at}
use Rattle.query_core.specs.Phrases.{lists_of, in_turn, follow_from}
use Rattle.query_core.proofs.Joining.{found_in_row}
use Rattle.query_core.proofs.Phrases.{zip_each, follows, words_long, run_starts, any_start}
use Rattle.query_core.proofs.phrase.stands.Goals as goal

pub returns : goal.returns
returns g c =
    IfOk-weaker c.have_run.result _ _ (λ found is docs inverts list are.
    let keys = c.args.words.now.terms.keys in
    let order = c.args.words.now.order.items in
    let lists = lists_of c.in_ok-lists.lists.items in
    let none : Term = record { field = []; bytes = [] } in
    let each : AllZip (λ t places. ArePositions docs t c.args.row places) keys lists = subst (λ (ts : List Term). AllZip (λ t places. ArePositions docs t c.args.row places) ts lists) c.as_slice.ensures.keys (c.in_ok-lists.ensures.lists docs inverts) in
    let rise : All IsRising lists = zip_each (λ t places. ArePositions docs t c.args.row places) IsRising keys lists (λ t places p. p.rise) each in
    let some : 0 < length list = omega (arith, words_long keys order list are, c.requires.some) in
    let starts = filter (follow_from (in_turn [] lists order)) (get_or lists (get_or order 0 0) []) in
    is (subst (λ l. All IsRising (lists_of l)) (sym c.as_slice-2.ensures.value) rise)
    ∙ (λ n. list_any (follow_from (in_turn [] (lists_of (c.as_slice-2.ensures.value n)) (c.as_slice-3.ensures.value n))) (get_or (lists_of (c.as_slice-2.ensures.value n)) (get_or (c.as_slice-3.ensures.value n) 0 0) []))
    ∙ any_start lists order
    ∙ found_in_row list docs c.args.row starts some
    (λ at. run_starts lists order at c.requires.some ∙ follows docs c.args.row keys lists each none order c.requires.some c.requires.within at ∙ ap (λ (ws : List Term). at_row (λ doc. terms_stand_at (terms doc) ws at) docs c.args.row) (are.are none))) c.have_run.ensures
