-- Words to which clap's definitions give no fault are a command.
use Rattle.std.proofs.Common.{◌≡◌, ◌∙◌, List, [], ◌∷◌, ℕ, Bool, true, false, ◌||◌, not, cond, is_some, codes, Option, Some, None, refl, ap}
use Rattle.std.specs.Prelude.{find, option_and_then, option_map}
use Rattle.std.specs.Option.{option_map_or, option_or}
use Rattle.std.specs.Str.{bytes_eq}
use Rattle.std.proofs.lemmas.Slice.Eq.{bytes_eq-Decides}
use Rattle.clap.specs.Facts.{explicit_source}
use Rattle.clap.specs.Kinds.{Kinds}
use Rattle.clap.specs.Walk.{Row, Text, answers_to, finished, nothing_held, rows_after, settled, walk, walk_from}
use Rattle.clap.specs.Simple.{App, Shape, built, entered, label_of, names_of, rows_at}
use Rattle.clap.specs.Faults.{check_fault, entered_fault, level_fault}
use Rattle.clap.specs.Takes.{is_given}
use Rattle.clap.specs.declared.error.kind.ErrorKind.TheVariants as kind
use Rattle.command_words.specs.Program as spec
use Rattle.command_words.specs.Options.{name_of}
use Rattle.command_words.specs.Accepted.{command_in, make_in, number_of, run_in, unless_fault}
use Rattle.command_words.specs.WordLaws.{FaultlessAccepted}
use Rattle.command_words.specs.declared.command.Command.TheVariants as command
use Rattle.command_words.specs.declared.number_option.NumberOption.{NumberOption}
use Rattle.command_words.specs.declared.number_option.NumberOption.TheVariants as option
use Rattle.command_words.proofs.Entering.{built_sub}
use Rattle.command_words.proofs.Rows.{default_found, find_defaults, named}
use Rattle.command_words.proofs.GoodRows.{AllWell, built_well, help_well, number_good, or_else_parts}
use Rattle.command_words.proofs.GoodWalks.{level_checks, level_good}
use Rattle.command_words.proofs.Stops.{StopsWell, walk_stop}

abbrev run : Shape
run = built_sub spec.run

abbrev make : Shape
make = built_sub spec.make

apart : {which one : NumberOption} → false ≡ true → one ≡ which
apart bad = absurd cc

run_threads : AllWell option.Threads run.rules
run_threads = (
  built_well option.Threads option.Threads (λ e. refl) (codes "4" ∷ []) false refl,
  (
    built_well option.Threads option.Buffer (λ e. apart e) (codes "1000" ∷ []) false refl,
    (
      built_well option.Threads option.Merge (λ e. apart e) (codes "8" ∷ []) false refl,
      (built_well option.Threads option.Keep (λ e. apart e) [] false tt, (help_well option.Threads, tt)),
    ),
  ),
)

run_buffer : AllWell option.Buffer run.rules
run_buffer = (
  built_well option.Buffer option.Threads (λ e. apart e) (codes "4" ∷ []) false refl,
  (
    built_well option.Buffer option.Buffer (λ e. refl) (codes "1000" ∷ []) false refl,
    (
      built_well option.Buffer option.Merge (λ e. apart e) (codes "8" ∷ []) false refl,
      (built_well option.Buffer option.Keep (λ e. apart e) [] false tt, (help_well option.Buffer, tt)),
    ),
  ),
)

run_merge : AllWell option.Merge run.rules
run_merge = (
  built_well option.Merge option.Threads (λ e. apart e) (codes "4" ∷ []) false refl,
  (
    built_well option.Merge option.Buffer (λ e. apart e) (codes "1000" ∷ []) false refl,
    (
      built_well option.Merge option.Merge (λ e. refl) (codes "8" ∷ []) false refl,
      (built_well option.Merge option.Keep (λ e. apart e) [] false tt, (help_well option.Merge, tt)),
    ),
  ),
)

make_seed : AllWell option.Seed make.rules
make_seed = (
  built_well option.Seed option.Seed (λ e. refl) [] true tt,
  (
    built_well option.Seed option.Lines (λ e. apart e) [] true tt,
    (built_well option.Seed option.Callers (λ e. apart e) [] true tt, (help_well option.Seed, tt)),
  ),
)

make_lines : AllWell option.Lines make.rules
make_lines = (
  built_well option.Lines option.Seed (λ e. apart e) [] true tt,
  (
    built_well option.Lines option.Lines (λ e. refl) [] true tt,
    (built_well option.Lines option.Callers (λ e. apart e) [] true tt, (help_well option.Lines, tt)),
  ),
)

make_callers : AllWell option.Callers make.rules
make_callers = (
  built_well option.Callers option.Seed (λ e. apart e) [] true tt,
  (
    built_well option.Callers option.Lines (λ e. apart e) [] true tt,
    (built_well option.Callers option.Callers (λ e. refl) [] true tt, (help_well option.Callers, tt)),
  ),
)

-- an option with a default is found
or_some : (o d : Option Row) → is_some d ≡ true → is_some (option_or o d) ≡ true
or_some None d e = e
or_some (Some row) d e = refl

by_default : (which : NumberOption) → AllWell which run.rules → is_some (default_found (name_of which) run.rules) ≡ true
    → (words : List Text) → level_fault run [] nothing_held words false [] ≡ [] → is_some (number_of which (rows_after run.rules [] words)) ≡ true
by_default which well has words fine =
    let rows = (settled run.rules (walk run.rules [] nothing_held words).held).rows in
    number_good which (rows_after run.rules [] words) (level_good which run well refl words fine)
    (ap is_some (find_defaults (name_of which) run.rules rows) ∙ or_some (find (named (name_of which)) rows) (default_found (name_of which) run.rules) has)

-- and one that is required
found_if_given : (o : Option Row) → option_map_or (λ (row : Row). explicit_source row.source) o false ≡ true → is_some o ≡ true
found_if_given None e = e
found_if_given (Some row) e = refl

all_given : (a b c : Bool) → cond (not a || (not b || (not c || false))) (kind.MissingRequiredArgument ∷ []) [] ≡ [] → (a ≡ true) × (b ≡ true) × (c ≡ true)
all_given true true true e = (refl, refl, refl)
all_given true true false e = absurd cc
all_given true false c e = absurd cc
all_given false b c e = absurd cc

made_run : (t b m k : Option ℕ) → is_some t ≡ true → is_some b ≡ true → is_some m ≡ true
    → is_some (option_and_then (λ threads. option_and_then (λ buffer. option_map (λ merge. command.Run threads buffer merge k) m) b) t) ≡ true
made_run None b m k t_is b_is m_is = t_is
made_run (Some t) None m k t_is b_is m_is = b_is
made_run (Some t) (Some b) None k t_is b_is m_is = m_is
made_run (Some t) (Some b) (Some m) k t_is b_is m_is = refl

made_make : (s l c : Option ℕ) → is_some s ≡ true → is_some l ≡ true → is_some c ≡ true
    → is_some (option_and_then (λ seed. option_and_then (λ lines. option_map (λ callers. command.Make seed lines callers) c) l) s) ≡ true
made_make None l c s_is l_is c_is = s_is
made_make (Some s) None c s_is l_is c_is = l_is
made_make (Some s) (Some l) None s_is l_is c_is = c_is
made_make (Some s) (Some l) (Some c) s_is l_is c_is = refl

-- a subcommand whose level has no fault is a command
abbrev IsCommand : Shape → Type 0
IsCommand s = (words : List Text) → level_fault s [] nothing_held words false [] ≡ [] → is_some (command_in (s.name, rows_after s.rules [] words)) ≡ true

run_command : (words : List Text) → level_fault run [] nothing_held words false [] ≡ [] → is_some (run_in (rows_after run.rules [] words)) ≡ true
run_command words fine =
    let rows = rows_after run.rules [] words in
    made_run (number_of option.Threads rows) (number_of option.Buffer rows) (number_of option.Merge rows) (number_of option.Keep rows)
    (by_default option.Threads run_threads refl words fine) (by_default option.Buffer run_buffer refl words fine) (by_default option.Merge run_merge refl words fine)

make_command : (words : List Text) → level_fault make [] nothing_held words false [] ≡ [] → is_some (make_in (rows_after make.rules [] words)) ≡ true
make_command words fine =
    let rows = rows_after make.rules [] words in
    let all = all_given (is_given (codes "seed") rows) (is_given (codes "lines") rows) (is_given (codes "callers") rows) (level_checks make words fine) in
    made_make (number_of option.Seed rows) (number_of option.Lines rows) (number_of option.Callers rows)
    (number_good option.Seed rows (level_good option.Seed make make_seed refl words fine) (found_if_given (find (named (codes "seed")) rows) all.0))
    (number_good option.Lines rows (level_good option.Lines make make_lines refl words fine) (found_if_given (find (named (codes "lines")) rows) all.1))
    (number_good option.Callers rows (level_good option.Callers make make_callers refl words fine) (found_if_given (find (named (codes "callers")) rows) all.2))

abbrev AllCommands : Text → List Shape → Type 0
AllCommands name [] = Unit
AllCommands name (s ∷ subs) = (answers_to name (label_of s) ≡ true → IsCommand s) × AllCommands name subs

entered_command : (p : Text × List Text) (subs : List Shape) → AllCommands p.0 subs
    → is_some (option_map (λ s. rows_at s p.1) (find (λ s. answers_to p.0 (label_of s)) subs)) ≡ true
    → option_map_or (λ s. level_fault s [] nothing_held p.1 false []) (find (λ s. answers_to p.0 (label_of s)) subs) [] ≡ []
    → is_some (option_and_then command_in (option_map (λ s. rows_at s p.1) (find (λ s. answers_to p.0 (label_of s)) subs))) ≡ true
entered_command p [] all has fine = has
entered_command p (s ∷ subs) all has fine = go (answers_to p.0 (label_of s)) refl (entered_command p subs all.1) has fine
  where
    go : (b : Bool) → answers_to p.0 (label_of s) ≡ b
        → (is_some (option_map (λ s. rows_at s p.1) (find (λ s. answers_to p.0 (label_of s)) subs)) ≡ true
        → option_map_or (λ s. level_fault s [] nothing_held p.1 false []) (find (λ s. answers_to p.0 (label_of s)) subs) [] ≡ []
        → is_some (option_and_then command_in (option_map (λ s. rows_at s p.1) (find (λ s. answers_to p.0 (label_of s)) subs))) ≡ true)
        → is_some (option_map (λ s. rows_at s p.1) (cond b (Some s) (find (λ s. answers_to p.0 (label_of s)) subs))) ≡ true
        → option_map_or (λ s. level_fault s [] nothing_held p.1 false []) (cond b (Some s) (find (λ s. answers_to p.0 (label_of s)) subs)) [] ≡ []
        → is_some (option_and_then command_in (option_map (λ s. rows_at s p.1) (cond b (Some s) (find (λ s. answers_to p.0 (label_of s)) subs)))) ≡ true
    go true is rest has fine = all.0 is p.1 fine
    go false is rest has fine = rest has fine

abbrev top : App
top = built spec.program

no_help : (name : Text) → bytes_eq name (codes "help") ≡ false → (bytes_eq (codes "help") name || false) ≡ true → ⊥
no_help name stops is = go (bytes_eq (codes "help") name) refl is
  where
    go : (b : Bool) → bytes_eq (codes "help") name ≡ b → (b || false) ≡ true → ⊥
    go true same is =
        let name_is : codes "help" ≡ name = (bytes_eq-Decides (codes "help") name).0 same in
        let bad : true ≡ false = ap (λ (n : Text). bytes_eq n (codes "help")) name_is ∙ stops in
        absurd cc
    go false same is = absurd cc

all_commands : (name : Text) → bytes_eq name (codes "help") ≡ false → AllCommands name top.subs
all_commands name stops = (
  (λ is words fine. run_command words fine),
  (
    (λ is words fine. refl),
    (
      (λ is words fine. refl),
      ((λ is words fine. refl), ((λ is words fine. make_command words fine), ((λ is. absurd (no_help name stops is)), tt))),
    ),
  ),
)

-- the last check of the whole command wants a subcommand
has_subcommand : (rows : List Row) (b : Bool) → check_fault top.top rows b ≡ [] → b ≡ true
has_subcommand rows true e = refl
has_subcommand rows false e = let bad : kind.MissingSubcommand ∷ [] ≡ [] = e in absurd cc

by_stop : (stop : Option (Text × List Text)) → StopsWell stop → is_some (entered top stop) ≡ true → entered_fault top stop ≡ []
    → is_some (option_and_then command_in (entered top stop)) ≡ true
by_stop None stops has fine = has
by_stop (Some p) stops has fine = entered_command p top.subs (all_commands p.0 stops) has fine

pub faultless_accepted : FaultlessAccepted
faultless_accepted words fine =
    let end = walk top.top.rules (names_of top) nothing_held words in
    let stop = end.stopped in
    let walks = or_else_parts _ _ fine in
    let below = or_else_parts _ _ walks.1 in
    let settles = or_else_parts _ _ below.1 in
    let defaults = or_else_parts _ _ settles.1 in
    ap (λ (faults : Kinds). is_some (unless_fault faults (entered top stop))) fine
    ∙ by_stop stop (walk_stop top.top refl (names_of top) (walk_from nothing_held) words tt walks.0) (has_subcommand (finished top.top.rules end.held) _ defaults.1) below.0
