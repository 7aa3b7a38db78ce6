use Rattle.std.proofs.Common.{◌≡◌, ◌∙◌, [], Result, IfOk, length, sym, ap, subst, arith, append-nil}
use Rattle.ix_base.specs.Entry.{entry_of}
use Rattle.ix_base.specs.Words.{entry_words}
use Rattle.delete_queue.specs.Seats.{SawClosed, own_of, the_view}
use Rattle.thread_writer.specs.declared.told.Told.{Told}
use Rattle.thread_writer.specs.declared.writer.ThreadWriter.{ThreadWriter}
use Rattle.thread_writer.specs.Answers.{FullFor, IfNotNumbered}
use Rattle.round_work.specs.declared.line.Halt.{Halt}
use Rattle.worker_tasks.specs.declared.task.Reply.{Reply}
use Rattle.round_work.specs.Lines.{TurnsFor, reply_for, told_for}
use Rattle.round_work.specs.Outboxes.{gave_by}
use Rattle.round_work.specs.Working.{WorksOn}
use Rattle.worker_tasks.specs.Replies.{IsReplyTo}
use Rattle.round_work.proofs.AtWork.{closed_for, closes_for, lined, replied, told_nothing, works_on, works_then}
use Rattle.round_work.proofs.Seeing.{turned_seen}
use Rattle.round_work.proofs.Turning.{full_turns, lined_turns, no_turns, same_turns, stays_own}
use Rattle.round_work.proofs.line.do_line.Goals.{in-Full, in_default}
use Rattle.round_work.proofs.line.do_line.Goals as goal

pub returns-clause-works : goal.returns-clause-works
returns-clause-works g c =
    let q = c.args.queue.now in
    let op = c.args.operation.now in
    let old = c.args.writer.now in
    let ready = c.give_off.new.writer in
    let done = c.do_line-told.new.self in
    let said = c.do_line-told.result in
    let does = c.do_line-told.ensures in
    let before = gave_by c.args.outbox.now in
    let gave = gave_by c.give_off.new.outbox in
    let more = told_for (reply_for said) op in
    let line = lined q op said ready done gave does.writer does.grows does.size does.numbered does.stays in
    subst (λ (r : Result Reply Halt). WorksOn q (told_for r op) old before c.match-told.writer gave) (sym c.reply.ensures)
    (works_then q [] more old ready c.match-told.writer before gave gave c.give_off.ensures.works
    (elim c.match-told.branch [
      | in-Full w ↦ subst (λ (v : ThreadWriter). WorksOn q more ready gave v gave) (sym w.writer-is)
          (let full = subst (λ (t : Told). FullFor (entry_words (entry_of op)) t ready done) w.in-Full.is does.full in
          works_on q more ready done w.turn.new.self gave gave gave line
          (told_nothing q done w.turn.new.self gave gave w.turn.ensures.writer w.turn.ensures.grows w.turn.ensures.buffer.1
          (λ own. absurd (let some = full.some in let zero_is = ap length own in omega (arith, some, zero_is)))
          (λ so_far did. w.turn.ensures.history so_far gave did) [] (sym (append-nil gave))))
      | in_default w ↦ subst (λ (v : ThreadWriter). WorksOn q more ready gave v gave) (sym w.writer-is) line
    ]))

pub returns-clause-reply : goal.returns-clause-reply
returns-clause-reply g c =
    let op = c.args.operation.now in
    subst (λ (r : Result Reply Halt). IfOk r (λ reply. IsReplyTo op reply)) (sym c.reply.ensures) (replied op c.do_line-told.result c.do_line-told.ensures.refusal)

pub returns-clause-closed : goal.returns-clause-closed
returns-clause-closed g c = λ closed.
    let said = c.do_line-told.result in
    let Saw : ThreadWriter → Type 0 = λ v. SawClosed (the_view v.seat) in
    elim c.match-told.branch [
      | in-Full w ↦ subst Saw (sym w.writer-is)
          (turned_seen c.args.queue.now w.turn.result c.do_line-told.new.self.seat w.turn.new.self.seat w.turn.ensures.writer.ready.seat w.turn.ensures.at
          w.turn.ensures.closed w.turn.ensures.full)
      | in_default w ↦ subst Saw (sym w.writer-is)
          (closed_for said (Saw c.do_line-told.new.self) c.do_line-told.ensures.closed (λ need left is. absurd (w.in_default.not-Full need left is))
          (sym c.reply.ensures ∙ closed))
    ]

pub returns-clause-commit : goal.returns-clause-commit
returns-clause-commit g c = λ commit.
    closes_for c.args.queue.now c.args.operation.now c.reply.result c.args.writer.now c.match-told.writer (gave_by c.args.outbox.now) (gave_by c.give_off.new.outbox) commit
    (returns-clause-reply g c) (returns-clause-works g c)

pub returns-clause-turned : goal.returns-clause-turned
returns-clause-turned g c =
    let op = c.args.operation.now in
    let old = c.args.writer.now in
    let ready = c.give_off.new.writer in
    let done = c.do_line-told.new.self in
    let said = c.do_line-told.result in
    let does = c.do_line-told.ensures in
    let line = lined_turns op said ready done does.links does.spelled (stays_own c.args.queue.now said ready done does.stays) in
    subst (λ (r : Result Reply Halt). TurnsFor r op old c.match-told.writer) (sym c.reply.ensures)
    (elim c.match-told.branch [
      | in-Full w ↦ subst (λ (v : ThreadWriter). TurnsFor (reply_for said) op old v) (sym w.writer-is)
          (full_turns op said w.in-Full.need w.in-Full.left w.turn.result old ready done w.turn.new.self w.in-Full.is
          (subst (λ (t : Told). FullFor (entry_words (entry_of op)) t ready done) w.in-Full.is does.full)
          c.give_off.ensures.own (subst (λ (t : Told). IfNotNumbered t (own_of done.seat ≡ own_of ready.seat)) w.in-Full.is
          (stays_own c.args.queue.now said ready done does.stays)) w.turn.ensures.at w.turn.ensures.closed w.turn.ensures.full)
      | in_default w ↦ subst (λ (v : ThreadWriter). TurnsFor (reply_for said) op old v) (sym w.writer-is)
          (no_turns op (reply_for said) old done (line ∙ same_turns old ready c.give_off.ensures.own))
    ])
