use Rattle.std.proofs.Common.{◌≡◌, ◌∙◌, ◌-◌, ◌^◌, List, map, ap}
use Rattle.std.specs.Prelude.{min}
use Rattle.std.proofs.lemmas.Result.{IfOk-weaker}
use Rattle.ix_base.specs.Hits.{hit_of}
use Rattle.ix_base.specs.declared.document.Row.{Row}
use Rattle.segment_core.specs.LiveRows.{Lived, all_live}
use Rattle.searcher.specs.Searching.{Searches}
use Rattle.report_text.specs.Born.{born_after}
use Rattle.store_answers.specs.Own.{born_up_to}
use Rattle.store_answers.proofs.EarlierRows.{later_left}
use Rattle.store_answers.proofs.own.later_hits.Goals as goal

pub returns : goal.returns
returns c =
    let base = c.args.base in
    let segments = c.args.searcher.now.segments in
    IfOk-weaker c.behind.result _ (λ left. (rows : List Row) → Searches segments rows → left.items ≡ map hit_of (born_after base rows))
    (λ left is rows searches.
    later_left base c.earlier-count.result segments rows c.in_ok-hits.hits.items left.items searches (c.in_ok-hits.ensures rows searches) c.behind.ensures.few
    (c.earlier-count.ensures ∙ ap (λ (gs : List Lived). min (born_up_to base (all_live gs)) (2 ^ 64 - 1)) c.as_slice.ensures) is)
    c.behind.ensures.left
