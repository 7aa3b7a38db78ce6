use Rattle.std.proofs.Common.{◌≡◌, ◌∙◌, ◌+◌, ◌≤◌, get_or, length, sym, ap, arith}
use Rattle.live_docs.specs.Marks.{Marks, fresh}
use Rattle.segment_core.specs.declared.segment.Segment.{Segment}
use Rattle.store_answers.proofs.EarlierRows.{counted, counted_dead, counted_later, counted_one, row_more}
use Rattle.store_answers.proofs.own.earlier_in.Goals as goal
use Rattle.store_answers.proofs.own.earlier_in.Goals.{then-number-base+then-is_live, else-number-base, else-number-base-via-then-number-base+else-is_live, else-number-base-via-else-number-base}

pub loop-place-preserved : goal.loop-place-preserved
loop-place-preserved c =
    let base = c.args.base in
    let i = c.loop-place.place in
    let rows = c.as_slice-rows.result.now in
    let marks = c.live-live.result.now.marks in
    let row = c.index-rows-place.result in
    let mark = get_or marks i fresh in
    let before = c.loop-place.count in
    let now = c.if-number-base.count in
    let lt = c.loop-place-test.true in
    let long : length marks ≡ length rows =
    ap (λ (m : Marks). length m.marks) c.live-live.ensures.live
    ∙ c.live-live.ensures.whole.rows
    ∙ sym (ap length (c.as_slice-rows.ensures ∙ ap (λ (g : Segment). g.rows) c.segment.ensures)) in
    let adds : (now ≡ before + counted base row mark) × (now ≤ before + 1) =
    elim c.if-number-base.branch [
      | then-number-base+then-is_live w ↦
          (omega (arith, w.count-is, counted_one base row mark (omega (arith, w.if-number-base.true)) (sym w.is_live.ensures ∙ w.if-is_live.true)), omega (arith, w.count-is))
      | else-number-base w ↦ (
        elim w.else-number-base.branch [
          | else-number-base-via-then-number-base+else-is_live v ↦
              omega (arith, w.count-is, counted_dead base row mark (omega (arith, v.if-number-base.true)) (sym v.is_live.ensures ∙ v.if-is_live.false))
          | else-number-base-via-else-number-base v ↦ omega (arith, w.count-is, counted_later base row mark (omega (arith, v.if-number-base.false)))
        ],
        omega (arith, w.count-is),
      )
    ] in
    record {
      count = row_more base before now rows marks i row lt long c.index-rows-place.is c.loop-place.invariant.count adds.0;
      few = omega (arith, adds.1, c.loop-place.invariant.few);
    }
