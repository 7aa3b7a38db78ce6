use Rattle.std.proofs.Common.{◌≡◌, ◌∙◌, Err, inl, inr, refl, sym, ap, subst}
use Rattle.std.specs.Prelude.{Option, IfErr}
use Rattle.command_words.specs.declared.command.Command.{Command}
use Rattle.index_run.specs.declared.stop.Stop.{Stop}
use Rattle.index_run.specs.Promises.{Call, Does}
use Rattle.index_run.proofs.Commanded.{does_nothing}
use Rattle.index_run.proofs.Pruning.{keeps_by}
use Rattle.index_run.specs.Commands.{command_of, keep_by}
use Rattle.index_run.specs.Causes.{LeavesStoreBy, stop_status}
use Rattle.index_run.specs.Keeping.{PreservesBy, StepsBy}
use Rattle.commit_point.proofs.StepLaws.{goes_none}
use Rattle.commit_point.specs.Steps.{MakesCommits}
use Rattle.index_run.proofs.commands.come_to.Goals as goal

pub returns-in-Err-clause-does : goal.returns-in-Err-clause-does
returns-in-Err-clause-does g c = λ command is.
    let input = g.I.Source.left c.args.input.now in
    let store = g.S.Store.disk c.args.store in
    let stopped : Stop → Call = λ s. record { input = input; store = store; left = store; text = Err s } in
    elim c.in-Err.ensures.others [
      | inl e ↦ absurd (let none = c.in-Err.ensures.words (ap Err e) in let both = sym is ∙ none in cc)
      | inr e ↦ subst (λ (s : Stop). Does command (stopped s)) (sym e) (does_nothing command input store store refl)
    ]

pub returns-in-Err-clause-kept : goal.returns-in-Err-clause-kept
returns-in-Err-clause-kept g c = λ given told can. keeps_by (keep_by (command_of c.args.words.now)) given _ _ refl told can

pub returns-in-Err-clause-steps : goal.returns-in-Err-clause-steps
returns-in-Err-clause-steps g c = λ all. goes_none (λ step older. MakesCommits step) _

pub returns-in-Ok-clause-kept : goal.returns-in-Ok-clause-kept
returns-in-Ok-clause-kept g c = λ given told can.
    subst (λ (w : Option Command). PreservesBy (keep_by w) given (g.S.Store.disk c.args.store) (g.S.Store.disk c.do_command.result.store))
    (sym c.in-Ok.ensures.command) (c.do_command.ensures.kept given told can)

pub returns-in-Ok-clause-steps : goal.returns-in-Ok-clause-steps
returns-in-Ok-clause-steps g c =
    subst (λ (w : Option Command). StepsBy (keep_by w) (g.S.Store.disk c.args.store) (g.S.Store.disk c.do_command.result.store))
    (sym c.in-Ok.ensures.command) c.do_command.ensures.steps

pub returns-in-Ok-clause-untouched : goal.returns-in-Ok-clause-untouched
returns-in-Ok-clause-untouched g c =
    subst
    (λ (w : Option Command). IfErr c.do_command.result.text (λ s. LeavesStoreBy (keep_by w) (stop_status s)
    → g.S.Store.disk c.do_command.result.store ≡ g.S.Store.disk c.args.store))
    (sym c.in-Ok.ensures.command) c.do_command.ensures.untouched
