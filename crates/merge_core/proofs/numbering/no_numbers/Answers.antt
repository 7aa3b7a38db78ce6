use Rattle.std.proofs.Common.{◌≡◌, ◌∙◌, ◌∷◌, [], ◌++◌, ℕ, List, None, Option, length, replicate, ap, subst, arith, rules}
use Rattle.std.specs.List.{filter_map, slice_get}
use Rattle.std.proofs.lemmas.List.{take_all}
use Rattle.segment_core.specs.LiveRows.{Lived}
use Rattle.segment_core.specs.declared.segment.Segment.{Segment}
use Rattle.merge_core.specs.Numbers.{AreNoNumbers}
use Rattle.merge_core.proofs.Finding.{chosen_length}
use Rattle.merge_core.proofs.NumbersUpto.{nones_more}
use Rattle.merge_core.proofs.numbering.no_numbers.Goals as goal

pub loop-source-preserved : goal.loop-source-preserved
loop-source-preserved c =
    let ss : List Lived = filter_map (slice_get c.args.segments.now) c.args.places.now in
    let rows : c.len-rows.result ≡ length c.source_at.result.now.segment.rows = c.len-rows.ensures ∙ ap (λ (g : Segment). length g.rows) c.segment.ensures in
    let own : c.in_ok-own.own.items ≡ replicate c.len-rows.result None = search rules in
    nones_more ss c.loop-source.source c.source_at.result.now c.loop-source.numbers.items c.push.new.self.items c.loop-source.invariant c.source_at.ensures
    (c.in_ok-push.ensures.items ∙ ap (λ (l : List (Option ℕ)). c.loop-source.numbers.items ++ l ∷ []) (c.from_vec.ensures ∙ (own ∙ ap (λ (n : ℕ). replicate n None) rows)))

pub returns : goal.returns
returns c =
    let ss : List Lived = filter_map (slice_get c.args.segments.now) c.args.places.now in
    subst (λ (l : List Lived). AreNoNumbers l c.loop-source.numbers.items)
    (take_all c.loop-source.source ss (omega (arith, chosen_length c.args.segments.now c.args.places.now c.requires.places))) c.loop-source.invariant
