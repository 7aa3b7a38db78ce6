use Rattle.std.proofs.Common.{◌≡◌, ◌∙◌, inl, inr, [], ◌∷◌, None, Err, refl, sym, ap, subst}
use Rattle.std.specs.Prelude.{IfErr}
use Rattle.command_words.specs.declared.command.Command.{Command}
use Rattle.command_words.specs.declared.command.Command.TheVariants.{Make, Run}
use Rattle.index_run.specs.declared.stop.Stop.TheVariants as stop
use Rattle.index_run.specs.declared.telling.Form.TheVariants.{Report, Summary}
use Rattle.index_run.specs.Causes.{IsOneOf, LeavesStoreBy, stop_status}
use Rattle.index_run.specs.Commands.{HasScript, keep_of}
use Rattle.index_run.specs.Endings.{Caused, Met}
use Rattle.index_run.specs.Promises.{Call, Does}
use Rattle.index_run.proofs.Commanded.{asked_done, caused_run, checked_done, is_read, listed_done, script_done, script_undone}
use Rattle.index_run.proofs.Pruning.{keeps_by}
use Rattle.index_run.specs.Keeping.{PreservesBy, StepsBy}
use Rattle.index_run.proofs.Listed.{at_err, err_always}
use Rattle.commit_point.proofs.StepLaws.{goes_none, goes_still}
use Rattle.commit_point.specs.Steps.{MakesCommits}
use Rattle.index_run.proofs.commands.do_command.Goals as goal

-- ---- run

pub returns-in-Ok-clause-does : goal.returns-in-Ok-clause-does
returns-in-Ok-clause-does g c =
    let input = g.I.Source.left c.args.input.now in
    let r = c.in-Run in
    let call : Call = record {
      input = g.I.Source.left c.args.input.now;
      store = g.S.Store.disk c.args.store;
      left = g.S.Store.disk c.do_script.result.store;
      text = c.do_script.result.text;
    } in
    subst (λ (k : Command). Does k call) (sym r.is)
    (script_done r.keep (HasScript (Run r.threads r.buffer r.merge r.keep) input) Report c.in-Ok.lines input (g.S.Store.disk c.args.store)
    (g.S.Store.disk c.do_script.result.store) c.do_script.result.text
    (is_read input r.threads r.buffer r.merge r.keep c.in-Ok.lines c.in-Ok.ensures.lines)
    c.do_script.ensures.done c.do_script.ensures.stops c.do_script.ensures.high c.do_script.ensures.whole)

pub returns-in-Ok-clause-caused : goal.returns-in-Ok-clause-caused
returns-in-Ok-clause-caused g c = λ f is.
    let r = c.in-Run in
    let met : Met = record {
      input = g.I.Source.left c.args.input.now;
      store = g.S.Store.disk c.args.store;
      left = g.S.Store.disk c.do_script.result.store;
      source_before = g.I.Source.fault_count c.args.input.now;
      source_after = g.I.Source.fault_count c.read_lines.new.input;
      store_before = g.S.Store.fault_count c.args.store;
      store_after = g.S.Store.fault_count c.do_script.result.store;
    } in
    subst (λ (k : Command). Caused k met f) (sym r.is)
    (caused_run r.threads r.buffer r.merge r.keep met f
    (at_err c.do_script.result.text (stop.Fault f) (λ s. IsOneOf (stop_status s) (4 ∷ 7 ∷ 8 ∷ 10 ∷ [])) is c.do_script.ensures.others)
    (λ e. c.do_script.ensures.failed (is ∙ ap (λ x. Err (stop.Fault x)) e))
    (λ damaged e. elim (c.do_script.ensures.damaged damaged (is ∙ ap (λ x. Err (stop.Fault x)) e)) [
      | inl reads ↦ inl (c.in-Ok.lines, c.in-Ok.ensures.script, reads)
      | inr stays ↦ inr stays
    ])
    (λ base e. c.do_script.ensures.base base (is ∙ ap (λ x. Err (stop.Fault x)) e)))

pub returns-in-Err-clause-does : goal.returns-in-Err-clause-does
returns-in-Err-clause-does g c =
    let input = g.I.Source.left c.args.input.now in
    let r = c.in-Run in
    let call : Call = record {
      input = g.I.Source.left c.args.input.now;
      store = g.S.Store.disk c.args.store;
      left = g.S.Store.disk c.args.store;
      text = Err c.in-Err.stop;
    } in
    subst (λ (k : Command). Does k call) (sym r.is)
    (script_undone r.keep (HasScript (Run r.threads r.buffer r.merge r.keep) input) Report input (g.S.Store.disk c.args.store) (g.S.Store.disk c.args.store)
    c.in-Err.stop refl (λ ls is. c.in-Err.ensures.whole is.0 ls is.1 is.2))

pub returns-in-Err-clause-kept : goal.returns-in-Err-clause-kept
returns-in-Err-clause-kept g c = λ given told can. keeps_by (keep_of c.args.command) given _ _ refl told can

-- ---- ask

pub returns-in-Ok-read_questions-clause-does : goal.returns-in-Ok-read_questions-clause-does
returns-in-Ok-read_questions-clause-does g c =
    let call : Call = record {
      input = g.I.Source.left c.args.input.now;
      store = g.S.Store.disk c.args.store;
      left = g.S.Store.disk c.answer.result.store;
      text = c.answer.result.text;
    } in
    subst (λ (k : Command). Does k call) (sym c.in-Ask.is)
    (asked_done c.in-Ask.commit c.in-Ok-read_questions.asked (g.I.Source.left c.args.input.now) (g.S.Store.disk c.args.store)
    (g.S.Store.disk c.answer.result.store) c.answer.result.text c.answer.ensures.same c.in-Ok-read_questions.ensures.questions
    c.answer.ensures.text c.answer.ensures.whole c.answer.ensures.missing)

pub returns-in-Ok-read_questions-clause-kept : goal.returns-in-Ok-read_questions-clause-kept
returns-in-Ok-read_questions-clause-kept g c = λ given told can. keeps_by (keep_of c.args.command) given _ _ c.answer.ensures.same told can

pub returns-in-Err-read_questions-clause-kept : goal.returns-in-Err-read_questions-clause-kept
returns-in-Err-read_questions-clause-kept g c = λ given told can. keeps_by (keep_of c.args.command) given _ _ refl told can

-- ---- list

pub returns-in-List-clause-does : goal.returns-in-List-clause-does
returns-in-List-clause-does g c =
    let call : Call = record {
      input = g.I.Source.left c.args.input.now;
      store = g.S.Store.disk c.args.store;
      left = g.S.Store.disk c.show.result.store;
      text = c.show.result.text;
    } in
    subst (λ (k : Command). Does k call) (sym c.in-List.is)
    (listed_done (g.I.Source.left c.args.input.now) (g.S.Store.disk c.args.store) (g.S.Store.disk c.show.result.store) c.show.result.text
    c.show.ensures.same c.show.ensures.text c.show.ensures.whole)

pub returns-in-List-clause-kept : goal.returns-in-List-clause-kept
returns-in-List-clause-kept g c = λ given told can. keeps_by (keep_of c.args.command) given _ _ c.show.ensures.same told can

-- ---- check

pub returns-in-Check-clause-does : goal.returns-in-Check-clause-does
returns-in-Check-clause-does g c =
    let call : Call = record {
      input = g.I.Source.left c.args.input.now;
      store = g.S.Store.disk c.args.store;
      left = g.S.Store.disk c.check_commits.result.store;
      text = c.check_commits.result.text;
    } in
    subst (λ (k : Command). Does k call) (sym c.in-Check.is)
    (checked_done (g.I.Source.left c.args.input.now) (g.S.Store.disk c.args.store) (g.S.Store.disk c.check_commits.result.store) c.check_commits.result.text
    c.check_commits.ensures.same c.check_commits.ensures.text c.check_commits.ensures.other c.check_commits.ensures.whole)

pub returns-in-Check-clause-kept : goal.returns-in-Check-clause-kept
returns-in-Check-clause-kept g c = λ given told can. keeps_by (keep_of c.args.command) given _ _ c.check_commits.ensures.same told can

-- ---- make

pub returns-in-Ok-make_script-clause-does : goal.returns-in-Ok-make_script-clause-does
returns-in-Ok-make_script-clause-does g c =
    let input = g.I.Source.left c.args.input.now in
    let m = c.in-Make in
    let done = c.do_script-in-Ok-make_script in
    let call : Call = record {
      input = g.I.Source.left c.args.input.now;
      store = g.S.Store.disk c.args.store;
      left = g.S.Store.disk c.do_script-in-Ok-make_script.result.store;
      text = c.do_script-in-Ok-make_script.result.text;
    } in
    subst (λ (k : Command). Does k call) (sym m.is)
    (script_done None (HasScript (Make m.seed m.lines m.callers) input) Summary c.in-Ok-make_script.script.lines input (g.S.Store.disk c.args.store)
    (g.S.Store.disk done.result.store) done.result.text (λ ls is. is ∙ sym c.in-Ok-make_script.ensures.lines)
    done.ensures.done done.ensures.stops done.ensures.high done.ensures.whole)

pub returns-in-Err-make_script-clause-does : goal.returns-in-Err-make_script-clause-does
returns-in-Err-make_script-clause-does g c =
    let input = g.I.Source.left c.args.input.now in
    let m = c.in-Make in
    let call : Call = record {
      input = g.I.Source.left c.args.input.now;
      store = g.S.Store.disk c.args.store;
      left = g.S.Store.disk c.args.store;
      text = Err stop.NoMemory;
    } in
    subst (λ (k : Command). Does k call) (sym m.is)
    (script_undone None (HasScript (Make m.seed m.lines m.callers) input) Summary input (g.S.Store.disk c.args.store) (g.S.Store.disk c.args.store)
    stop.NoMemory refl (λ ls is. refl))

pub returns-in-Err-make_script-clause-kept : goal.returns-in-Err-make_script-clause-kept
returns-in-Err-make_script-clause-kept g c = λ given told can. keeps_by (keep_of c.args.command) given _ _ refl told can

-- ---- steps by which commits are made, and none

pub returns-in-Err-clause-steps : goal.returns-in-Err-clause-steps
returns-in-Err-clause-steps g c = λ all. goes_none (λ step older. MakesCommits step) _

pub returns-in-Ok-read_questions-clause-steps : goal.returns-in-Ok-read_questions-clause-steps
returns-in-Ok-read_questions-clause-steps g c = λ all. goes_still (λ step older. MakesCommits step) _ _ c.answer.ensures.same

pub returns-in-Ok-read_questions-clause-untouched : goal.returns-in-Ok-read_questions-clause-untouched
returns-in-Ok-read_questions-clause-untouched g c = err_always c.answer.result.text _ (λ s listed. c.answer.ensures.same)

pub returns-in-Err-read_questions-clause-steps : goal.returns-in-Err-read_questions-clause-steps
returns-in-Err-read_questions-clause-steps g c = λ all. goes_none (λ step older. MakesCommits step) _

pub returns-in-List-clause-steps : goal.returns-in-List-clause-steps
returns-in-List-clause-steps g c = λ all. goes_still (λ step older. MakesCommits step) _ _ c.show.ensures.same

pub returns-in-List-clause-untouched : goal.returns-in-List-clause-untouched
returns-in-List-clause-untouched g c = err_always c.show.result.text _ (λ s listed. c.show.ensures.same)

pub returns-in-Check-clause-steps : goal.returns-in-Check-clause-steps
returns-in-Check-clause-steps g c = λ all. goes_still (λ step older. MakesCommits step) _ _ c.check_commits.ensures.same

pub returns-in-Check-clause-untouched : goal.returns-in-Check-clause-untouched
returns-in-Check-clause-untouched g c = err_always c.check_commits.result.text _ (λ s listed. c.check_commits.ensures.same)

pub returns-in-Err-make_script-clause-steps : goal.returns-in-Err-make_script-clause-steps
returns-in-Err-make_script-clause-steps g c = λ all. goes_none (λ step older. MakesCommits step) _

pub returns-in-Ok-clause-kept : goal.returns-in-Ok-clause-kept
returns-in-Ok-clause-kept g c = λ given told can.
    subst (λ (k : Command). PreservesBy (keep_of k) given (g.S.Store.disk c.args.store) (g.S.Store.disk c.do_script.result.store))
    (sym c.in-Run.is) (c.do_script.ensures.kept given told can)

pub returns-in-Ok-clause-steps : goal.returns-in-Ok-clause-steps
returns-in-Ok-clause-steps g c =
    subst (λ (k : Command). StepsBy (keep_of k) (g.S.Store.disk c.args.store) (g.S.Store.disk c.do_script.result.store))
    (sym c.in-Run.is) c.do_script.ensures.steps

pub returns-in-Ok-clause-untouched : goal.returns-in-Ok-clause-untouched
returns-in-Ok-clause-untouched g c =
    subst
    (λ (k : Command). IfErr c.do_script.result.text (λ s. LeavesStoreBy (keep_of k) (stop_status s)
    → g.S.Store.disk c.do_script.result.store ≡ g.S.Store.disk c.args.store))
    (sym c.in-Run.is) c.do_script.ensures.same

pub returns-in-Ok-make_script-clause-kept : goal.returns-in-Ok-make_script-clause-kept
returns-in-Ok-make_script-clause-kept g c = λ given told can.
    subst (λ (k : Command). PreservesBy (keep_of k) given (g.S.Store.disk c.args.store) (g.S.Store.disk c.do_script-in-Ok-make_script.result.store))
    (sym c.in-Make.is) (c.do_script-in-Ok-make_script.ensures.kept given told can)

pub returns-in-Ok-make_script-clause-steps : goal.returns-in-Ok-make_script-clause-steps
returns-in-Ok-make_script-clause-steps g c =
    subst (λ (k : Command). StepsBy (keep_of k) (g.S.Store.disk c.args.store) (g.S.Store.disk c.do_script-in-Ok-make_script.result.store))
    (sym c.in-Make.is) c.do_script-in-Ok-make_script.ensures.steps

pub returns-in-Ok-make_script-clause-untouched : goal.returns-in-Ok-make_script-clause-untouched
returns-in-Ok-make_script-clause-untouched g c =
    subst
    (λ (k : Command). IfErr c.do_script-in-Ok-make_script.result.text (λ s. LeavesStoreBy (keep_of k) (stop_status s)
    → g.S.Store.disk c.do_script-in-Ok-make_script.result.store ≡ g.S.Store.disk c.args.store))
    (sym c.in-Make.is) c.do_script-in-Ok-make_script.ensures.same
