use Rattle.std.proofs.Common.{◌≡◌, ◌∙◌, ◌<◌, ℕ, List, Some, length, get_or, sym, ap, subst, arith}
use Rattle.std.specs.List.{filter_map, slice_get}
use Rattle.ix_base.specs.declared.document.Row.{Row}
use Rattle.segment_core.specs.LiveRows.{Lived}
use Rattle.segment_core.specs.declared.segment.Segment.{Segment}
use Rattle.merge_core.specs.Reading.{row_at}
use Rattle.merge_core.specs.declared.origin.Origin.{Origin}
use Rattle.merge_core.proofs.Copied.{copied_more}
use Rattle.merge_core.proofs.Finding.{chosen_length, origin_row, row_at_source, row_at_within, within_of}
use Rattle.merge_core.proofs.Numbers.{get_at}
use Rattle.merge_core.proofs.copying.copy_next.Goals as goal

pub source_at-requires-clause-source : goal.source_at-requires-clause-source
source_at-requires-clause-source c =
    let ss : List Lived = filter_map (slice_get c.args.segments.now) c.args.places.now in
    let d : Origin = record { source = 0; row = 0 } in
    let o : Origin = get_or c.args.origins.now c.len-at.result d in
    let r = origin_row ss c.args.origins.now c.requires.rows.0 c.len-at.result d c.requires.rows.1 (omega (arith, c.if-at-origins.false)) in
    omega (arith, row_at_within ss o.source o.row r.0 r.1, chosen_length c.args.segments.now c.args.places.now c.requires.places)

pub bounds-as_slice-origin : goal.bounds-as_slice-origin
bounds-as_slice-origin c =
    let ss : List Lived = filter_map (slice_get c.args.segments.now) c.args.places.now in
    let d : Origin = record { source = 0; row = 0 } in
    let o : Origin = get_or c.args.origins.now c.len-at.result d in
    let r = origin_row ss c.args.origins.now c.requires.rows.0 c.len-at.result d c.requires.rows.1 (omega (arith, c.if-at-origins.false)) in
    let rows : c.as_slice.result.now ≡ c.source_at.result.now.segment.rows = c.as_slice.ensures ∙ ap (λ (g : Segment). g.rows) c.segment-from.ensures in
    omega (arith, within_of ss o.source o.row c.source_at.result.now r.0 c.source_at.ensures r.1, ap (λ (l : List Row). length l) rows)

pub returns-clause-copied : goal.returns-clause-copied
returns-clause-copied c =
    let ss : List Lived = filter_map (slice_get c.args.segments.now) c.args.places.now in
    let d : Origin = record { source = 0; row = 0 } in
    let at : ℕ = c.len-at.result in
    let o : Origin = get_or c.args.origins.now at d in
    let lt : at < length c.args.origins.now = omega (arith, c.if-at-origins.false) in
    let r = origin_row ss c.args.origins.now c.requires.rows.0 at d c.requires.rows.1 lt in
    let s : Lived = c.source_at.result.now in
    let rows : c.as_slice.result.now ≡ s.segment.rows = c.as_slice.ensures ∙ ap (λ (g : Segment). g.rows) c.segment-from.ensures in
    let within : o.row < length c.as_slice.result.now = omega (arith, within_of ss o.source o.row s r.0 c.source_at.ensures r.1, ap (λ (l : List Row). length l) rows) in
    let row : row_at ss o.source o.row ≡ Some c.in_ok-row.row =
    row_at_source ss o.source o.row s c.source_at.ensures
    ∙ (ap (λ (l : List Row). slice_get l o.row) (sym rows)
    ∙ (get_at c.as_slice.result.now o.row c.index-as_slice-origin.result within ∙ ap Some (sym c.index-as_slice-origin.is ∙ sym c.in_ok-row.ensures))) in
    let here : at ≡ length c.args.rows.now = c.len-at.ensures in
    copied_more ss c.args.origins.now c.args.rows.now c.push.new.self d c.in_ok-row.row c.requires.copied (omega (arith, lt, here))
    (subst (λ (n : ℕ). row_at ss (get_or c.args.origins.now n d).source (get_or c.args.origins.now n d).row ≡ Some c.in_ok-row.row) here row)
    c.in_ok-push.ensures.ok
