use Rattle.std.proofs.Common.{◌≡◌, ◌∙◌, ltb, refl, sym, ap, subst}
use Rattle.std.specs.Prelude.{IfSome}
use Rattle.flush_control.specs.Merging.{StillRuns}
use Rattle.flush_control.specs.declared.published.Published.{Published}
use Rattle.index_writer.specs.declared.state.State.{State}
use Rattle.index_writer.specs.Merging.{Merges, ids_of}
use Rattle.index_writer.specs.Ready.{IsReady}
use Rattle.index_writer.proofs.Committing.{on_err}
use Rattle.index_writer.proofs.MergedState.{is_turn, merges, ready_turn, runs_still, turns_at}
use Rattle.index_writer.proofs.state.State.merge_turn.Goals as goal

pub returns-in_err-ids-clause-kept : goal.returns-in_err-ids-clause-kept
returns-in_err-ids-clause-kept c =
    let p : Published = c.args.self.now.published in
    on_err c.from_residual.result _ (runs_still c.args.rows p p.merge refl)

pub returns-in_err-written-clause-kept : goal.returns-in_err-written-clause-kept
returns-in_err-written-clause-kept c =
    let p : Published = c.args.self.now.published in
    on_err c.from_residual-in_err-written.result _
    (subst (λ (t : State). IfSome p.merge (λ run. StillRuns c.args.rows p run t.published)) (sym c.in_err-written.ensures.err) (runs_still c.args.rows p p.merge refl))

pub returns-in-Ok-clause-merged : goal.returns-in-Ok-clause-merged
returns-in-Ok-clause-merged c =
    let s : State = c.args.self.now in
    let mid : State = c.take_written.new.self in
    let new : Published = c.merge_turn.new.self in
    let ids : c.as_slice-in-Ok.result.now ≡ ids_of s.published.segments = c.as_slice-in-Ok.ensures.value ∙ (c.in_ok-ids.ensures ∙ ap ids_of c.as_slice.ensures) in
    let is = is_turn s mid c.in-Ok.turn new c.as_slice-segments.result.now c.as_slice-in-Ok.result.now c.in_ok-written.written.items c.follow.result
    (ltb mid.published.next_id new.next_id) c.in_ok-written.ensures.ok c.as_slice-segments.ensures ids c.in_ok-written.ensures.items refl c.follow.ensures in
    subst (Merges c.args.rows c.in-Ok.turn s) (sym is)
    (merges c.merges_stand.ensures s c.args.rows c.in-Ok.turn new c.requires.ready (turns_at c.args.rows s mid c.in-Ok.turn new c.in_ok-written.ensures.ok c.in-Ok.ensures.turn))

pub returns-in-Ok-clause-ready : goal.returns-in-Ok-clause-ready
returns-in-Ok-clause-ready c =
    let s : State = c.args.self.now in
    let mid : State = c.take_written.new.self in
    let new : Published = c.merge_turn.new.self in
    let ids : c.as_slice-in-Ok.result.now ≡ ids_of s.published.segments = c.as_slice-in-Ok.ensures.value ∙ (c.in_ok-ids.ensures ∙ ap ids_of c.as_slice.ensures) in
    let is = is_turn s mid c.in-Ok.turn new c.as_slice-segments.result.now c.as_slice-in-Ok.result.now c.in_ok-written.written.items c.follow.result
    (ltb mid.published.next_id new.next_id) c.in_ok-written.ensures.ok c.as_slice-segments.ensures ids c.in_ok-written.ensures.items refl c.follow.ensures in
    subst IsReady (sym is)
    (ready_turn c.merges_stand.ensures s c.args.rows c.in-Ok.turn new c.requires.ready (turns_at c.args.rows s mid c.in-Ok.turn new c.in_ok-written.ensures.ok c.in-Ok.ensures.turn))
