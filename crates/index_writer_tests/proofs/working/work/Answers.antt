use Rattle.std.proofs.Common.{sym, subst}
use Rattle.thread_writer.specs.declared.writer.ThreadWriter.{ThreadWriter}
use Rattle.index_writer_tests.specs.Trials.{StaysAtWork}
use Rattle.index_writer_tests.proofs.AtWork.{lined, told_nothing}
use Rattle.index_writer_tests.proofs.working.work.Goals.{in-Full, in_default}
use Rattle.index_writer_tests.proofs.working.work.Goals as goal

pub returns : goal.returns
returns c =
    let q = c.args.queue.now in
    let ready = c.give_off.new.writer in
    let done = c.do_line-told.new.self in
    let does = c.do_line-told.ensures in
    let gave = c.give_off.new.gave.items in
    let line = lined q c.args.operation.now c.do_line-told.result ready done gave does.writer does.grows does.numbered does.stays in
    λ number at.
    let worked = line number (c.give_off.ensures.works number at) in
    elim c.match-told.branch [
      | in-Full w ↦ subst (λ (v : ThreadWriter). StaysAtWork q done gave v gave) (sym w.writer-is)
          (told_nothing q done w.turn.new.self gave gave w.turn.ensures.writer w.turn.ensures.grows (λ so_far did. w.turn.ensures.history so_far gave did))
          number worked
      | in_default w ↦ subst (λ (v : ThreadWriter). StaysAtWork q done gave v gave) (sym w.writer-is) (λ n is. is) number worked
    ]
