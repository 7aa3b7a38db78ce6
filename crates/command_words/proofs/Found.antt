-- What clap found is the command that the words are.
use Rattle.std.proofs.Common.{◌≡◌, ◌∙◌, List, [], true, Option, Some, None, Result, sym, ap, subst}
use Rattle.std.specs.Prelude.{IfOk, option_and_then}
use Rattle.std.specs.Option.{ok_or}
use Rattle.clap.proofs.OnLiterals.{clap_on_literals}
use Rattle.clap.specs.Faults.{fault_of, is_simple_and_free}
use Rattle.clap.specs.Kinds.{Kinds}
use Rattle.clap.specs.Simple.{App, is_simple, subcommand_of}
use Rattle.clap.specs.Walk.{Row, Text}
use Rattle.command_words.specs.Accepted.{accepted, command_in, unless_fault}
use Rattle.command_words.specs.Program.{program}
use Rattle.command_words.specs.declared.command.Command.{Command}
use Rattle.command_words.specs.declared.command.WordsFault.{WordsFault}

pub simple : (p : App) → p ≡ program → is_simple p ≡ true
unfolding clap_on_literals
simple p is = ap is_simple is

pub simple_and_free : (p : App) → p ≡ program → is_simple_and_free p ≡ true
unfolding clap_on_literals
simple_and_free p is = ap is_simple_and_free is

found_is : (p : App) (words : List Text) (entered : Option (Text × List Row)) (found : Option Command) → p ≡ program → fault_of p words ≡ [] → entered ≡ subcommand_of p words
    → found ≡ option_and_then command_in entered → found ≡ accepted words
found_is p words entered found is fine same made =
    let moved : unless_fault (fault_of p words) (subcommand_of p words) ≡ accepted words = ap (λ (a : App). unless_fault (fault_of a words) (subcommand_of a words)) is in
    let none : unless_fault (fault_of p words) (subcommand_of p words) ≡ option_and_then command_in (subcommand_of p words) = ap (λ (kinds : Kinds). unless_fault kinds (subcommand_of p words)) fine in
    made ∙ ap (option_and_then command_in) same ∙ sym none ∙ moved

result_of : (words : List Text) (found : Option Command) (e : WordsFault) → found ≡ accepted words → IfOk (ok_or found e) (λ command. accepted words ≡ Some command)
result_of words None e is = tt
result_of words (Some command) e is = sym is

pub reads : (p : App) (words : List Text) (entered : Option (Text × List Row)) (found : Option Command) (e : WordsFault) (r : Result Command WordsFault) → p ≡ program → fault_of p words ≡ [] → entered ≡ subcommand_of p words
    → found ≡ option_and_then command_in entered → r ≡ ok_or found e → IfOk r (λ command. accepted words ≡ Some command)
reads p words entered found e r is fine same made given =
    subst (λ (x : Result Command WordsFault). IfOk x (λ command. accepted words ≡ Some command)) (sym given) (result_of words found e (found_is p words entered found is fine same made))
