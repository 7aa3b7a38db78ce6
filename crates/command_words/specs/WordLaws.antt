-- The laws of accepted words: options after a subcommand's name, in any order, give it their numbers;
-- and only words with a fault aren't accepted.
use Rattle.std.specs.Prelude.{◌≡◌, ◌≢◌, ◌⊎◌, ℕ, List, [], ◌∷◌, ◌++◌, codes, find, All, AllPairs}
use Rattle.std.specs.Prelude.{Option, Some, is_some, true, option_map, unwrap_or}
use Rattle.std.specs.Str.{bytes_eq}
use Rattle.std.specs.Str.Parse.{IsNumeral, digits_value}
use Rattle.clap.specs.Walk.{Text}
use Rattle.clap.specs.Faults.{fault_of}
use Rattle.command_words.specs.Options.{name_of, IsNumberOf}
use Rattle.command_words.specs.Program.{program}
use Rattle.command_words.specs.Accepted.{accepted}
use Rattle.command_words.specs.declared.command.Command.TheVariants as command
use Rattle.command_words.specs.declared.number_option.NumberOption.{NumberOption}
use Rattle.command_words.specs.declared.number_option.NumberOption.TheVariants as option

-- an option that is given: its name and a text
abbrev pub Use : Type 0
Use = Text × Text

-- the words of the options: two hyphens and the name, and then the text
abbrev pub words_of : List Use → List Text
words_of [] = []
words_of (one ∷ uses) = (codes "--" ++ one.0) ∷ one.1 ∷ words_of uses

-- the option, with the decimal digits of a number in its range
abbrev pub IsUse : NumberOption → Use → Type 0
IsUse which one = (one.0 ≡ name_of which) × IsNumeral 10 one.1 × IsNumberOf which (digits_value 10 one.1)

abbrev pub IsRunUse : Use → Type 0
IsRunUse one = IsUse option.Threads one ⊎ (IsUse option.Buffer one ⊎ (IsUse option.Merge one ⊎ IsUse option.Keep one))

abbrev pub IsAskUse : Use → Type 0
IsAskUse one = IsUse option.Commit one

abbrev pub IsMakeUse : Use → Type 0
IsMakeUse one = IsUse option.Seed one ⊎ (IsUse option.Lines one ⊎ IsUse option.Callers one)

-- no option is given twice
abbrev pub EachOnce : List Use → Type 0
EachOnce uses = AllPairs (λ one later. one.0 ≢ later.0) uses

-- the number that is given to the option, where it is there
abbrev pub given : NumberOption → List Use → Option ℕ
given which uses = option_map (λ one. digits_value 10 one.1) (find (λ one. bytes_eq one.0 (name_of which)) uses)

-- an option of `run` that isn't given has its default, and the last of them no number
abbrev pub RunAccepted : Type 0
RunAccepted = (uses : List Use) → All IsRunUse uses → EachOnce uses
    → accepted (codes "run" ∷ words_of uses) ≡ Some (command.Run
    (unwrap_or (given option.Threads uses) 4)
    (unwrap_or (given option.Buffer uses) 1000)
    (unwrap_or (given option.Merge uses) 8)
    (given option.Keep uses))

-- `ask` without its option has no number
abbrev pub AskAccepted : Type 0
AskAccepted = (uses : List Use) → All IsAskUse uses → EachOnce uses
    → accepted (codes "ask" ∷ words_of uses) ≡ Some (command.Ask (given option.Commit uses))

abbrev pub ListAccepted : Type 0
ListAccepted = accepted (codes "list" ∷ []) ≡ Some command.List

abbrev pub CheckAccepted : Type 0
CheckAccepted = accepted (codes "check" ∷ []) ≡ Some command.Check

-- `make` with its three options
abbrev pub MakeAccepted : Type 0
MakeAccepted = (uses : List Use) → All IsMakeUse uses → EachOnce uses → (seed lines callers : ℕ)
    → given option.Seed uses ≡ Some seed → given option.Lines uses ≡ Some lines
    → given option.Callers uses ≡ Some callers
    → accepted (codes "make" ∷ words_of uses) ≡ Some (command.Make seed lines callers)

-- words to which clap's definitions give no fault are accepted
abbrev pub FaultlessAccepted : Type 0
FaultlessAccepted = (words : List Text) → fault_of program words ≡ [] → is_some (accepted words) ≡ true
