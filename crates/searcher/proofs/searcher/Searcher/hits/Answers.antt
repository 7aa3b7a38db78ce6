use Rattle.std.proofs.Common.{◌≡◌, List, sym, subst, ◌∙◌, ap}
use Rattle.std.proofs.lemmas.Result.{IfOk-weaker}
use Rattle.ix_base.specs.Hits.{hits}
use Rattle.ix_base.specs.declared.document.Row.{Row}
use Rattle.segment_core.specs.LiveRows.{Lived, all_live}
use Rattle.commit_point.specs.Holds.{AreInverted}
use Rattle.searcher.specs.Finding.{AreByBirth, found_among}
use Rattle.searcher.specs.Searching.{Searches}
use Rattle.searcher.specs.declared.shown.Found.{Found}
use Rattle.searcher.proofs.Ordering.{hits_by_birth}
use Rattle.searcher.proofs.searcher.Searcher.hits.Goals as goal

pub returns : goal.returns
returns c =
    let query = c.args.query.now in
    let segments = c.args.self.now.segments in
    IfOk-weaker c.hits_by_birth.result _ (λ found. (rows : List Row) → Searches segments rows → found.items ≡ hits query rows)
    (λ found by rows searches.
    let are : c.in_ok-found_in.field-0.items ≡ found_among query (all_live segments) =
    c.in_ok-found_in.ensures (subst AreInverted (sym c.as_slice.ensures) searches.inverted)
    ∙ ap (λ (gs : List Lived). found_among query (all_live gs)) c.as_slice.ensures in
    hits_by_birth query segments rows found.items (subst (λ (l : List Found). AreByBirth l found.items) are by) searches)
    c.hits_by_birth.ensures
