use Rattle.std.proofs.Common.{◌≡◌, ◌∙◌, ◌+◌, List, length, take, ap, arith}
use Rattle.std.specs.List.{filter_map, slice_get}
use Rattle.segment_core.specs.LiveRows.{Lived}
use Rattle.segment_core.specs.declared.segment.Segment.{Segment}
use Rattle.merge_core.specs.Merging.{row_count}
use Rattle.merge_core.proofs.Copied.{rows_more, take_past}
use Rattle.merge_core.proofs.Finding.{chosen_length}
use Rattle.merge_core.proofs.copying.rows_in.Goals as goal

pub loop-source-preserved : goal.loop-source-preserved
loop-source-preserved c =
    let ss : List Lived = filter_map (slice_get c.args.segments.now) c.args.places.now in
    let more = rows_more ss c.loop-source.source c.source_at.result.now c.source_at.ensures in
    let was : c.loop-source.rows ≡ row_count (take c.loop-source.source ss) = c.loop-source.invariant in
    let len : c.len.result ≡ length c.source_at.result.now.segment.rows = c.len.ensures ∙ ap (λ (g : Segment). length g.rows) c.segment.ensures in
    let sum : c.in_ok-rows.rows ≡ c.loop-source.rows + c.len.result = c.in_ok-rows.ensures in
    omega (arith, more, was, len, sum)

pub returns : goal.returns
returns c =
    let ss : List Lived = filter_map (slice_get c.args.segments.now) c.args.places.now in
    c.loop-source.invariant
    ∙ ap (λ (l : List Lived). row_count l) (take_past c.loop-source.source ss (omega (arith, c.loop-source-test.false, chosen_length c.args.segments.now c.args.places.now c.requires.places)))
