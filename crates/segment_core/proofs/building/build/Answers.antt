use Rattle.std.proofs.Common.{◌∙◌, List, length, refl, sym, ap, subst}
use Rattle.ix_base.specs.declared.document.Row.{Row}
use Rattle.live_docs.specs.Marks.{Marks}
use Rattle.segment_core.specs.LiveRows.{IsBuilt}
use Rattle.segment_core.specs.declared.segment.Segment.{Segment}
use Rattle.segment_core.proofs.BuiltRows.{fates_of_new, of_given, none_live, some_live}
use Rattle.segment_core.proofs.building.build.Goals as goal

pub returns-then-live_count-eq0 : goal.returns-then-live_count-eq0
returns-then-live_count-eq0 c ops stands =
    let given : List Row = c.args.frozen.rows.items in
    let segment : Segment = record { id = c.args.id; rows = c.from_vec-rows.result; postings = c.args.frozen.postings } in
    let made : Marks = c.apply_updates.new.live in
    sym (fates_of_new given segment c.len.result c.args.cut c.in_ok-live.live made c.args.updates.now
    c.from_vec-rows.ensures (c.len.ensures ∙ ap length c.from_vec-rows.ensures) c.in_ok-live.ensures c.requires.inverted c.in_ok-apply_updates.ensures.fates ops stands)
    ∙ none_live segment.rows made.marks (sym c.live_count.ensures ∙ c.if-live_count-eq0.true)

pub returns : goal.returns
returns c =
    let given : List Row = c.args.frozen.rows.items in
    let segment : Segment = record { id = c.args.id; rows = c.from_vec-rows.result; postings = c.args.frozen.postings } in
    let made : Marks = c.apply_updates.new.live in
    subst (IsBuilt given c.args.updates.now c.args.id c.args.cut) (sym c.new-2.ensures)
    (record {
      id = refl;
      rows = c.from_vec-rows.ensures;
      inverted = of_given given segment c.from_vec-rows.ensures c.requires.inverted;
      applied = c.in_ok-apply_updates.ensures.applied ∙ ap (λ (m : Marks). m.applied) c.in_ok-live.ensures;
      some = some_live segment.rows made.marks c.in_ok-apply_updates.ensures.whole.rows (λ none. c.if-live_count-eq0.false (c.live_count.ensures ∙ none));
      fates = fates_of_new given segment c.len.result c.args.cut c.in_ok-live.live made c.args.updates.now
          c.from_vec-rows.ensures (c.len.ensures ∙ ap length c.from_vec-rows.ensures) c.in_ok-live.ensures c.requires.inverted c.in_ok-apply_updates.ensures.fates;
    })
