-- The option of `ask`, and `list` and `check` with none.
use Rattle.std.proofs.Common.{◌∙◌, ℕ, Option, Some, codes, refl, ap}
use Rattle.std.specs.List.{slice_index_or}
use Rattle.clap.specs.Simple.{Shape}
use Rattle.clap.proofs.OnLiterals.{clap_on_literals}
use Rattle.command_words.specs.Program as spec
use Rattle.command_words.specs.declared.number_option.NumberOption.TheVariants as option
use Rattle.command_words.specs.WordLaws.{IsAskUse, AskAccepted, ListAccepted, CheckAccepted, given, words_of}
use Rattle.command_words.specs.declared.command.Command.TheVariants as command
use Rattle.command_words.proofs.Rows.{number_found, once_fresh}
use Rattle.command_words.proofs.Walks.{Takes}
use Rattle.command_words.proofs.Entering.{accepted_ask, built_sub}
use Rattle.command_words.proofs.Naming.{TakesNamed, Numbers, made_of_uses, or_none, own, takes_named}

abbrev ask : Shape
ask = built_sub spec.ask

commit : TakesNamed ask (codes "commit") 0 9223372036854775807
unfolding clap_on_literals
commit = record {
  steps = λ held d ds minus. rw (minus, minus) refl;
  fine = λ held d ds words minus fine. rw (fine, minus, minus) refl;
  settles = λ rows text. refl;
  settles_fine = λ rows skip text passes free. rw (free, passes) refl;
}

takes : Takes ask IsAskUse
takes = takes_named option.Commit commit

commit_number : Numbers option.Commit IsAskUse
commit_number = own option.Commit

pub ask_accepted : AskAccepted
ask_accepted uses all once =
    accepted_ask (words_of uses)
    ∙ made_of_uses (codes "ask") takes uses all (once_fresh uses once) refl refl
    ∙ ap (λ (number : Option ℕ). Some (command.Ask number))
    (number_found option.Commit ask.rules uses (λ k d lt. commit_number (slice_index_or uses k d) (all k d lt)) ∙ or_none (given option.Commit uses))

pub list_accepted : ListAccepted
unfolding clap_on_literals
list_accepted = refl

pub check_accepted : CheckAccepted
unfolding clap_on_literals
check_accepted = refl
