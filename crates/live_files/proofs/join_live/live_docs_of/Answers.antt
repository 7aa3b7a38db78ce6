use Rattle.std.proofs.Common.{◌≡◌, ◌∙◌, List, false, length, get_or, refl, ap, arith}
use Rattle.std.proofs.lemmas.Result.{IfOk-weaker}
use Rattle.live_docs.specs.declared.live_docs.Mark.{Mark}
use Rattle.live_files.specs.LiveMarks.{unrowed, own_values, marks_of}
use Rattle.live_files.proofs.LiveMarkLaws.{marks_count}
use Rattle.live_files.proofs.JoinLive.{join_more, join_ends, own_rises}
use Rattle.live_files.proofs.join_live.live_docs_of.Goals as goal

pub numbers_of-requires : goal.numbers_of-requires
numbers_of-requires c =
    let own : unrowed c.split_at.result.0.now ≡ own_values c.loop-row.row c.loop-row.rest.now = ap unrowed c.split_at.ensures.front ∙ c.own_count.ensures.own in
    own_rises c.args.bits.now c.args.values.now c.loop-row.row c.loop-row.rest.now c.loop-row.marks.items (unrowed c.split_at.result.0.now) c.loop-row-test.true c.requires.fit c.loop-row.invariant own

pub loop-row-preserved : goal.loop-row-preserved
loop-row-preserved c =
    let own = c.in_ok-numbers_of.ensures ∙ ap unrowed c.split_at.ensures.front ∙ c.own_count.ensures.own in
    let others = c.split_at.ensures.back ∙ c.own_count.ensures.others in
    rw c.in_ok-push.ensures.items (join_more c.args.bits.now c.loop-row.row c.loop-row.rest.now c.split_at.result.1.now c.loop-row.marks.items (marks_of c.args.bits.now c.args.values.now) (get_or c.args.bits.now c.loop-row.row false) false c.in_ok-numbers_of.field-0
    c.loop-row-test.true refl own others c.loop-row.invariant)

pub from_marks-requires : goal.from_marks-requires
from_marks-requires c =
    let all = join_ends c.args.bits.now c.loop-row.row c.loop-row.rest.now c.loop-row.marks.items (marks_of c.args.bits.now c.args.values.now) c.loop-row-test.false c.loop-row.invariant in
    let count = ap length all ∙ marks_count c.args.bits.now c.args.values.now in
    omega (arith, c.requires.few, count)

pub returns : goal.returns
returns c =
    let all = join_ends c.args.bits.now c.loop-row.row c.loop-row.rest.now c.loop-row.marks.items (marks_of c.args.bits.now c.args.values.now) c.loop-row-test.false c.loop-row.invariant in
    IfOk-weaker c.from_marks.result _ _ (λ docs is. is ∙ ap (λ (ms : List Mark). record { applied = c.args.applied; marks = ms }) all) c.from_marks.ensures
