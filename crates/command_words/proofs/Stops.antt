-- Where a walk has no fault, the subcommand at which it stops is not `help`.
use Rattle.std.proofs.Common.{◌≡◌, List, [], ◌∷◌, ℕ, Bool, true, false, ◌&&◌, not, cond, is_some, fold, codes, Option, Some, None, refl, subst}
use Rattle.std.specs.Str.{bytes_eq}
use Rattle.clap.specs.Lexer.{long_of, short_of}
use Rattle.clap.specs.Kinds.{or_else}
use Rattle.clap.specs.Walk.{Held, Names, Outcome, Rule, Step, Text, Waiting, Walk, after_flag, after_step, arg_by_index, done, idle, long_or_other, next, option, plain, plain_word, positional, refused, short_or_plain, subcommand, subcommand_met, subcommand_or_other, to_positional, trailing, value, waits, walked, walked_from, word_met}
use Rattle.clap.specs.Simple.{Shape}
use Rattle.clap.specs.Faults.{other_fault, step_fault, turn_fault, walk_fault, word_fault}
use Rattle.clap.specs.declared.error.kind.ErrorKind.TheVariants as kind
use Rattle.command_words.proofs.GoodRows.{or_else_parts}

abbrev IsNoHelp : Step → Type 0
IsNoHelp (subcommand name) = bytes_eq name (codes "help") ≡ false
IsNoHelp (next waiting) = Unit
IsNoHelp (trailing position) = Unit
IsNoHelp value = Unit

abbrev pub StopsWell : Option (Text × List Text) → Type 0
StopsWell None = Unit
StopsWell (Some p) = bytes_eq p.0 (codes "help") ≡ false

plain_step : (rules : List Rule) (waiting : Waiting) (word : Text) (held : Held) → IsNoHelp (plain_word rules waiting word held).1
plain_step rules (option id) word held = tt
plain_step rules idle word held = tt
plain_step rules positional word held = tt

flag_step : (rules : List Rule) (waiting : Waiting) (word : Text) (held : Held) (outcome : Outcome) → IsNoHelp (after_flag rules waiting word held outcome).1
flag_step rules waiting word held done = tt
flag_step rules waiting word held (waits id) = tt
flag_step rules waiting word held plain = plain_step rules waiting word held
flag_step rules waiting word held refused = plain_step rules waiting word held

short_step : (rules : List Rule) (waiting : Waiting) (word : Text) (flags : Option Text) (held : Held) → IsNoHelp (short_or_plain rules waiting word flags held).1
short_step rules waiting word None held = plain_step rules waiting word held
short_step rules waiting word (Some flags) held = flag_step rules waiting word _ _

long_step : (rules : List Rule) (waiting : Waiting) (word : Text) (p : Option (Text × Option Text)) (held : Held) → IsNoHelp (long_or_other rules waiting word p held).1
long_step rules waiting word (Some p) held = flag_step rules waiting word _ _
long_step rules waiting word None held = short_step rules waiting word (short_of word) held

other_step : (s : Shape) → s.disable_help_subcommand ≡ false → (met : Option Text) (waiting : Waiting) (position : ℕ) (word : Text) (held : Held)
    → other_fault s met word held ≡ [] → IsNoHelp (subcommand_or_other s.rules met waiting position word held).1
other_step s helps (Some name) waiting position word held fine = go (bytes_eq name (codes "help")) (subst (λ (off : Bool). cond (bytes_eq name (codes "help") && not off) (kind.DisplayHelp ∷ kind.InvalidSubcommand ∷ []) [] ≡ []) helps fine)
  where
    go : (b : Bool) → cond (b && true) (kind.DisplayHelp ∷ kind.InvalidSubcommand ∷ []) [] ≡ [] → b ≡ false
    go true fine = absurd cc
    go false fine = refl
other_step s helps None waiting position word held fine = go (bytes_eq word (45 ∷ 45 ∷ []))
  where
    go : (b : Bool) → IsNoHelp (cond b (held, trailing position) (long_or_other s.rules waiting word (long_of word) held)).1
    go true = tt
    go false = long_step s.rules waiting word (long_of word) held

word_step : (s : Shape) → s.disable_help_subcommand ≡ false → (names : Names) (is_trailing : Bool) (waiting : Waiting) (position : ℕ) (word : Text) (held : Held)
    → word_fault s names is_trailing waiting word held ≡ [] → IsNoHelp (word_met s.rules names is_trailing waiting position word held).1
word_step s helps names true waiting position word held fine = tt
word_step s helps names false waiting position word held fine = other_step s helps (subcommand_met names waiting word) waiting position word held fine

positional_stop : (rules : List Rule) (o : Option Rule) (word : Text) (w : Walk) (held : Held) → StopsWell w.stopped → StopsWell (to_positional rules o word w held).stopped
positional_stop rules None word w held stops = stops
positional_stop rules (Some rule) word w held stops = tt

step_stop : (rules : List Rule) (word : Text) (w : Walk) (held : Held) (step : Step) → IsNoHelp step → StopsWell w.stopped → StopsWell (after_step rules word w held step).stopped
step_stop rules word w held (next waiting) no_help stops = stops
step_stop rules word w held (trailing position) no_help stops = stops
step_stop rules word w held (subcommand name) no_help stops = no_help
step_stop rules word w held value no_help stops = positional_stop rules (arg_by_index rules w.position) word w held stops

walked_stop : (s : Shape) → s.disable_help_subcommand ≡ false → (names : Names) (w : Walk) (word : Text) → StopsWell w.stopped → turn_fault s names w word ≡ []
    → StopsWell (walked s.rules names w word).stopped
unfolding walked
walked_stop s helps names w word stops fine = go w.stopped stops fine
  where
    go : (stopped : Option (Text × List Text)) → StopsWell stopped
        → cond (is_some stopped) [] (or_else (word_fault s names w.is_trailing w.waiting word w.held) (step_fault s w.position (word_met s.rules names w.is_trailing w.waiting w.position word w.held).0 (word_met s.rules names w.is_trailing w.waiting w.position word w.held).1)) ≡ []
        → StopsWell (walked_from s.rules names stopped w word).stopped
    go (Some p) is fine = is
    go None is fine = step_stop s.rules word w _ _ (word_step s helps names w.is_trailing w.waiting w.position word w.held (or_else_parts _ _ fine).0) stops

pub walk_stop : (s : Shape) → s.disable_help_subcommand ≡ false → (names : Names) (w : Walk) (words : List Text) → StopsWell w.stopped → walk_fault s names w words ≡ []
    → StopsWell (fold (walked s.rules names) w words).stopped
unfolding walk_fault
walk_stop s helps names w [] stops fine = stops
walk_stop s helps names w (word ∷ words) stops fine =
    let parts = or_else_parts _ _ fine in
    walk_stop s helps names (walked s.rules names w word) words (walked_stop s helps names w word stops parts.0) parts.1
