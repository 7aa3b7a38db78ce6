-- The program's command, as clap's definitions describe one.
use Rattle.std.specs.Prelude.{ℕ, [], ◌∷◌, Some, true, codes}
use Rattle.clap.specs.Simple.{App, Shape, new_app, new_rule, with_rule, with_subcommand, on_top}
use Rattle.clap.specs.Walk.{Rule, Text}
use Rattle.clap.specs.declared.builder.value_parser.ValueParser.TheVariants as parser
use Rattle.command_words.specs.Options.{name_of, low_of, high_of}
use Rattle.command_words.specs.declared.number_option.NumberOption.{NumberOption}
use Rattle.command_words.specs.declared.number_option.NumberOption.TheVariants as option

-- a long option with one number from low to high
abbrev pub ranged_rule : Text → ℕ → ℕ → Rule
ranged_rule name low high = record (new_rule name) { long = Some name; parser = Some (parser.Unsigned low high) }

abbrev pub number_rule : NumberOption → Rule
number_rule one = ranged_rule (name_of one) (low_of one) (high_of one)

-- the text of its number where the option is not given
abbrev pub by_default : Text → Rule → Rule
by_default text rule = record rule { defaults = text ∷ [] }

-- the option has to be given
abbrev pub always : Rule → Rule
always rule = record rule { required = true }

-- `run` with those of its options that have a default
abbrev pub run_with_defaults : App
run_with_defaults = with_rule (with_rule (with_rule (new_app (codes "run"))
    (by_default (codes "4") (number_rule option.Threads)))
    (by_default (codes "1000") (number_rule option.Buffer)))
    (by_default (codes "8") (number_rule option.Merge))

abbrev pub run : App
run = with_rule run_with_defaults (number_rule option.Keep)

abbrev pub ask : App
ask = with_rule (new_app (codes "ask")) (number_rule option.Commit)

abbrev pub list : App
list = new_app (codes "list")

abbrev pub check : App
check = new_app (codes "check")

abbrev pub make : App
make = with_rule (with_rule (with_rule (new_app (codes "make"))
    (always (number_rule option.Seed)))
    (always (number_rule option.Lines)))
    (always (number_rule option.Callers))

-- one of the subcommands has to be named, and the words come without the program's name
abbrev pub as_program : Shape → Shape
as_program shape = record shape { no_binary_name = true; subcommand_required = true }

abbrev pub program : App
program =
    let none = on_top as_program (new_app (codes "index_run")) in
    with_subcommand (with_subcommand (with_subcommand (with_subcommand (with_subcommand none run.top) ask.top) list.top) check.top) make.top
