-- The command that the words of a command line are, by clap's own definitions.
use Rattle.std.specs.Prelude.{ℕ, List, if◌then◌else◌, codes, false, IfSome}
use Rattle.std.specs.Prelude.{Option, Some, None, option_map, option_and_then}
use Rattle.std.specs.Str.{bytes_eq}
use Rattle.std.specs.Str.Parse.{digits_value, without_leading_plus}
use Rattle.clap.specs.Kinds.{Kinds}
use Rattle.clap.specs.Walk.{Row, Text, is_empty, one_of}
use Rattle.clap.specs.Simple.{subcommand_of}
use Rattle.clap.specs.Faults.{fault_of}
use Rattle.clap.specs.ValueTests.{accepts}
use Rattle.clap.specs.declared.builder.value_parser.ValueParser.TheVariants as parser
use Rattle.command_words.specs.Options.{name_of, low_of, high_of, IsNumberOf}
use Rattle.command_words.specs.Program.{program}
use Rattle.command_words.specs.declared.command.Command.{Command}
use Rattle.command_words.specs.declared.command.Command.TheVariants as command
use Rattle.command_words.specs.declared.number_option.NumberOption.{NumberOption}
use Rattle.command_words.specs.declared.number_option.NumberOption.TheVariants as option

-- the number that a text is, where clap takes it for one from low to high
abbrev pub number_text : ℕ → ℕ → Text → Option ℕ
number_text low high text =
    if accepts false (parser.Unsigned low high) text then Some (digits_value 10 (without_leading_plus text)) else None

-- the number of the option of this name, in what clap found
abbrev pub ranged_number : Text → ℕ → ℕ → List Row → Option ℕ
ranged_number name low high rows = option_and_then (number_text low high) (one_of name rows)

abbrev pub number_of : NumberOption → List Row → Option ℕ
number_of one rows = ranged_number (name_of one) (low_of one) (high_of one) rows

-- `run`, where each of its options with a default has a number
abbrev pub run_in : List Row → Option Command
run_in rows = option_and_then (λ threads. option_and_then (λ buffer.
    option_map (λ merge. command.Run threads buffer merge (number_of option.Keep rows))
    (number_of option.Merge rows)) (number_of option.Buffer rows)) (number_of option.Threads rows)

-- `make`, where each of its options has a number
abbrev pub make_in : List Row → Option Command
make_in rows = option_and_then (λ seed. option_and_then (λ lines.
    option_map (λ callers. command.Make seed lines callers)
    (number_of option.Callers rows)) (number_of option.Lines rows)) (number_of option.Seed rows)

-- the command by the subcommand's name, and what clap found of its options
abbrev pub command_in : Text × List Row → Option Command
command_in entered =
    if bytes_eq entered.0 (codes "run") then run_in entered.1
    else (if bytes_eq entered.0 (codes "ask") then Some (command.Ask (number_of option.Commit entered.1))
    else (if bytes_eq entered.0 (codes "list") then Some command.List
    else (if bytes_eq entered.0 (codes "check") then Some command.Check
    else (if bytes_eq entered.0 (codes "make") then make_in entered.1 else None))))

abbrev pub unless_fault : Kinds → Option (Text × List Row) → Option Command
unless_fault faults entered = if is_empty faults then option_and_then command_in entered else None

-- the command that the words are, where clap's definitions give them no fault
abbrev pub accepted : List Text → Option Command
accepted words = unless_fault (fault_of program words) (subcommand_of program words)

-- each number is in its option's range
abbrev pub InRange : Command → Type 0
InRange (command.Run threads buffer merge keep) =
    IsNumberOf option.Threads threads × IsNumberOf option.Buffer buffer × IsNumberOf option.Merge merge
    × IfSome keep (IsNumberOf option.Keep)
InRange (command.Ask commit) = IfSome commit (IsNumberOf option.Commit)
InRange command.List = Unit
InRange command.Check = Unit
InRange (command.Make seed lines callers) =
    IsNumberOf option.Seed seed × IsNumberOf option.Lines lines × IsNumberOf option.Callers callers
