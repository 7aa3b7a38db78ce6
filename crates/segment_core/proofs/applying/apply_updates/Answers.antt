use Rattle.std.proofs.Common.{◌≡◌, ℕ, List, subst}
use Rattle.std.proofs.lemmas.Result.{on_ok_weaker}
use Rattle.ix_base.specs.declared.document.Row.{Row}
use Rattle.frozen_packet.specs.Updates.{as_operations}
use Rattle.live_docs.specs.declared.live_docs.Mark.{Mark}
use Rattle.segment_core.specs.Segments.{IsInverted}
use Rattle.segment_core.specs.LiveRows.{above}
use Rattle.segment_core.specs.Marking.{marks_after}
use Rattle.segment_core.specs.declared.segment.Segment.{Segment}
use Rattle.segment_core.proofs.BuiltRows.{fated, read_inverted}
use Rattle.segment_core.proofs.applying.apply_updates.Goals as goal

pub returns-clause-fates : goal.returns-clause-fates
returns-clause-fates c =
    let segment : Segment = c.args.segment.now in
    let u = c.args.updates.now in
    let low : ℕ = c.args.low in
    let before : List Mark = c.args.live.now.marks in
    let after : List Mark = c.mark_updates.new.live.marks in
    on_ok_weaker c.mark_updates.result
    (λ e (is : IsInverted segment).
    fated low u segment.rows before after
    (subst (λ (rows : List Row). after ≡ marks_after (above low (as_operations u)) rows before) c.as_slice-rows.ensures
    (e (read_inverted segment c.as_slice-rows.result.now c.as_slice-rows.ensures c.requires.few is))))
    c.mark_updates.ensures.marks
