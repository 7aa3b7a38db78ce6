-- The words of a subcommand, after its name.
use Rattle.std.proofs.Common.{◌≡◌, ◌∙◌, List, [], ◌∷◌, ◌++◌, fold, codes, false, is_some, Option, Some, refl, sym, ap, ap₂, append_assoc, append-nil}
use Rattle.clap.specs.Kinds.{Kinds, or_else}
use Rattle.clap.specs.Walk.{Names, Rule, Text, Walk, finished, nothing_held, rows_after, settled, walk, walk_from, walked}
use Rattle.clap.specs.Simple.{App, Shape, built, built_leaf, entered, inherited, marked_built, names_of, on_top, with_leaf_noted}
use Rattle.clap.specs.Faults.{check_fault, defaults_fault, entered_fault, level_fault, settle_fault, walk_fault}
use Rattle.clap.proofs.OnLiterals.{clap_on_literals}
use Rattle.command_words.specs.Program as spec
use Rattle.command_words.specs.Accepted.{accepted, unless_fault}
use Rattle.command_words.specs.declared.command.Command.{Command}

-- once a walk has stopped, the other words are kept
stopped_more : (rules : List Rule) (names : Names) (w : Walk) (name : Text) (seen : List Text) (word : Text)
    → walked rules names (record w { stopped = Some (name, seen) }) word ≡ record w { stopped = Some (name, seen ++ word ∷ []) }
unfolding clap_on_literals
stopped_more rules names w name seen word = refl

stopped_all : (rules : List Rule) (names : Names) (w : Walk) (name : Text) (seen words : List Text)
    → fold (walked rules names) (record w { stopped = Some (name, seen) }) words ≡ record w { stopped = Some (name, seen ++ words) }
stopped_all rules names w name seen [] = ap (λ (all : List Text). record w { stopped = Some (name, all) }) (sym (append-nil seen))
stopped_all rules names w name seen (word ∷ words) =
    ap (λ (v : Walk). fold (walked rules names) v words) (stopped_more rules names w name seen word)
    ∙ stopped_all rules names w name (seen ++ word ∷ []) words
    ∙ ap (λ (all : List Text). record w { stopped = Some (name, all) }) (append_assoc seen (word ∷ []) words)

-- and none of them has a fault
stopped_fine : (s : Shape) (names : Names) (w : Walk) (name : Text) (seen words : List Text)
    → walk_fault s names (record w { stopped = Some (name, seen) }) words ≡ []
unfolding clap_on_literals
stopped_fine s names w name seen [] = refl
stopped_fine s names w name seen (word ∷ words) = stopped_fine s names w name (seen ++ word ∷ []) words

abbrev top : App
top = built spec.program

-- where a walk stands that has met the subcommand
abbrev stopped_at : Text → List Text → Walk
stopped_at name words = record (walk_from nothing_held) { stopped = Some (name, words) }

entered_walk : (name : Text) → walked top.top.rules (names_of top) (walk_from nothing_held) name ≡ stopped_at name []
    → (words : List Text) → walk top.top.rules (names_of top) nothing_held (name ∷ words) ≡ stopped_at name words
entered_walk name first words =
    ap (λ (w : Walk). fold (walked top.top.rules (names_of top)) w words) first
    ∙ stopped_all top.top.rules (names_of top) (walk_from nothing_held) name [] words

-- what is made of a walk over the program's words
abbrev made_of : Walk → Kinds → Option Command
made_of w faults =
    unless_fault (or_else faults (or_else (entered_fault top w.stopped) (or_else (settle_fault top.top.rules false w.held)
    (or_else (defaults_fault (settled top.top.rules w.held).rows top.top.rules) (check_fault top.top (finished top.top.rules w.held) (is_some (entered top w.stopped)))))))
    (entered top w.stopped)

-- a subcommand as clap has built it
abbrev pub built_sub : App → Shape
built_sub app = built_leaf (inherited (on_top with_leaf_noted (on_top marked_built spec.program)).top app.top)

-- what a subcommand's own level makes of its words
abbrev pub made_by : Text → Shape → List Text → Option Command
made_by name s words = unless_fault (or_else (level_fault s [] nothing_held words false []) []) (Some (name, rows_after s.rules [] words))

run_fine : (words : List Text) → walk_fault top.top (names_of top) (walk_from nothing_held) (codes "run" ∷ words) ≡ []
unfolding clap_on_literals
run_fine words = stopped_fine top.top (names_of top) (walk_from nothing_held) (codes "run") [] words

run_first : walked top.top.rules (names_of top) (walk_from nothing_held) (codes "run") ≡ stopped_at (codes "run") []
unfolding clap_on_literals
run_first = refl

pub accepted_run : (words : List Text) → accepted (codes "run" ∷ words) ≡ made_by (codes "run") (built_sub spec.run) words
unfolding clap_on_literals
accepted_run words = ap₂ made_of (entered_walk (codes "run") run_first words) (run_fine words)

ask_fine : (words : List Text) → walk_fault top.top (names_of top) (walk_from nothing_held) (codes "ask" ∷ words) ≡ []
unfolding clap_on_literals
ask_fine words = stopped_fine top.top (names_of top) (walk_from nothing_held) (codes "ask") [] words

ask_first : walked top.top.rules (names_of top) (walk_from nothing_held) (codes "ask") ≡ stopped_at (codes "ask") []
unfolding clap_on_literals
ask_first = refl

pub accepted_ask : (words : List Text) → accepted (codes "ask" ∷ words) ≡ made_by (codes "ask") (built_sub spec.ask) words
unfolding clap_on_literals
accepted_ask words = ap₂ made_of (entered_walk (codes "ask") ask_first words) (ask_fine words)

make_fine : (words : List Text) → walk_fault top.top (names_of top) (walk_from nothing_held) (codes "make" ∷ words) ≡ []
unfolding clap_on_literals
make_fine words = stopped_fine top.top (names_of top) (walk_from nothing_held) (codes "make") [] words

make_first : walked top.top.rules (names_of top) (walk_from nothing_held) (codes "make") ≡ stopped_at (codes "make") []
unfolding clap_on_literals
make_first = refl

pub accepted_make : (words : List Text) → accepted (codes "make" ∷ words) ≡ made_by (codes "make") (built_sub spec.make) words
unfolding clap_on_literals
accepted_make words = ap₂ made_of (entered_walk (codes "make") make_first words) (make_fine words)
