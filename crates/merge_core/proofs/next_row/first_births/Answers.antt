use Rattle.std.proofs.Common.{◌≡◌, ◌∙◌, ℕ, List, Option, length, ap, sym, arith, length-append}
use Rattle.std.specs.List.{filter_map, slice_get}
use Rattle.std.specs.Option.{option_map}
use Rattle.ix_base.specs.declared.document.Row.{Row}
use Rattle.segment_core.specs.LiveRows.{Lived}
use Rattle.merge_core.proofs.Finding.{chosen_length, row_at_source}
use Rattle.merge_core.proofs.NextBirths.{first_births_more}
use Rattle.merge_core.proofs.next_row.first_births.Goals as goal

pub loop-source-preserved : goal.loop-source-preserved
loop-source-preserved c =
    let ss : List Lived = filter_map (slice_get c.args.segments.now) c.args.places.now in
    let k : ℕ = c.loop-source.source in
    record {
      count = omega (arith, ap length c.in_ok-push.ensures.items, c.loop-source.invariant.count, length-append {A = Option ℕ});
      each = first_births_more ss c.loop-source.births.items c.push.new.self.items k c.birth_at.result c.loop-source.invariant.count c.loop-source.invariant.each
          c.in_ok-push.ensures.items (c.birth_at.ensures ∙ ap (option_map (λ (r : Row). r.birth)) (sym (row_at_source ss k 0 c.source_at.result.now c.source_at.ensures)));
    }

pub returns : goal.returns
returns c =
    let long : c.loop-source.source ≡ length (filter_map (slice_get c.args.segments.now) c.args.places.now) = omega (arith, chosen_length c.args.segments.now c.args.places.now c.requires.places) in
    record {
      count = c.loop-source.invariant.count ∙ long;
      each = λ k lt. c.loop-source.invariant.each k (omega (arith, long, lt));
    }
