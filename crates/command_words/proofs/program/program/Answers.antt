use Rattle.std.proofs.Common.{◌≡◌, ◌∙◌, ap, ap₂, true}
use Rattle.std.proofs.lemmas.Result.{IfOk-weaker}
use Rattle.clap.specs.Simple.{App, app_of, app_of_fields, with_subcommand, on_top}
use Rattle.command_words.specs.Program as spec
use Rattle.command_words.proofs.program.program.Goals as goal

pub returns : goal.returns
returns c =
    let bare : app_of c.subcommand_required.result ≡ on_top spec.as_program (app_of c.new.result) =
    ap app_of_fields c.subcommand_required.ensures ∙ ap (λ f. app_of_fields (record f { subcommand_required = true })) c.no_binary_name.ensures in
    let with_run = c.in_ok-subcommand.ensures.shape c.in_ok-run.ensures.local ∙ ap₂ with_subcommand (bare ∙ ap (on_top spec.as_program) c.new.ensures.app) (ap (λ (a : App). a.top) c.in_ok-run.ensures.app) in
    let with_ask = c.in_ok-subcommand-2.ensures.shape c.in_ok-ask.ensures.local ∙ ap₂ with_subcommand with_run (ap (λ (a : App). a.top) c.in_ok-ask.ensures.app) in
    let with_list = c.in_ok-subcommand-3.ensures.shape c.new-2.ensures.local ∙ ap₂ with_subcommand with_ask (ap (λ (a : App). a.top) c.new-2.ensures.app) in
    let with_check = c.in_ok-subcommand-4.ensures.shape c.new-3.ensures.local ∙ ap₂ with_subcommand with_list (ap (λ (a : App). a.top) c.new-3.ensures.app) in
    IfOk-weaker c.subcommand-5.result _ _
    (λ command added. added.shape c.in_ok-make.ensures.local ∙ ap₂ with_subcommand with_check (ap (λ (a : App). a.top) c.in_ok-make.ensures.app))
    c.subcommand-5.ensures
