use Rattle.std.proofs.Common.{List, ℕ, ◌++◌, IfSome, refl, sym, ap, subst, ◌∙◌}
use Rattle.std.proofs.lemmas.Result.{on_ok_weaker}
use Rattle.ix_base.specs.declared.document.Row.{Row}
use Rattle.segment_core.specs.Columns.{AreColumnsOf}
use Rattle.segment_core.specs.Marking.{documents_now}
use Rattle.searcher.specs.declared.shown.Found.{Found}
use Rattle.searcher.specs.Finding.{found_at}
use Rattle.searcher.proofs.Gathering.{found_answered}
use Rattle.searcher.proofs.found.add_matching.Goals as goal

pub returns : goal.returns
returns c =
    let before = c.args.found.now.items in
    let s = c.args.segment.now in
    let now = c.current-current.result in
    let known = subst (λ (rows : List Row). IfSome now.columns (λ k. AreColumnsOf rows k.now)) (sym c.current-current.ensures.rows) c.current-current.ensures.columns in
    on_ok_weaker c.add_rows.result
    (λ added inverted.
    added
    ∙ ap (λ (numbers : List ℕ). before ++ found_at now.rows.now now.live.now.marks numbers) c.as_slice.ensures.value
    ∙ ap (λ (found : List Found). before ++ found) (found_answered c.args.query.now s now.index.now now.rows.now now.live.now c.in_ok-numbers.numbers.items
    c.current-current.ensures.index c.current-current.ensures.rows c.current-current.ensures.live
    (λ inverts long. c.in_ok-numbers.ensures (documents_now now.rows.now now.live.now.marks) (inverts, long, refl, known)) c.current-current.ensures.whole inverted))
    c.add_rows.ensures
