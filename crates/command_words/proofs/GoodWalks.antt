-- A walk that has no fault leaves the rows of an option good.
use Rattle.std.proofs.Common.{◌≡◌, ℕ, zero, suc, List, [], ◌∷◌, Bool, true, false, ◌&&◌, subst, cond, drop, is_some, fold, length, Option, Some, None}
use Rattle.std.specs.Prelude.{encode_utf8, slice_get}
use Rattle.std.specs.Option.{option_map_or}
use Rattle.std.specs.Str.{bytes_eq, chars}
use Rattle.clap.specs.Lexer.{long_of, short_of}
use Rattle.clap.specs.Kinds.{Kinds, or_else}
use Rattle.clap.specs.Walk.{Held, Names, Outcome, Row, Rule, Step, Text, Waiting, Walk, after_flag, after_step, arg_by_id, arg_by_index, arg_by_long, arg_by_short, attached_value, bundle_met, bundle_step, done, finished, flag_met, idle, is_pending, long_met, long_or_other, next, nothing_held, option, option_met, option_word, plain, plain_word, positional, pushed, reacted, refused, rows_after, settled, settled_rows, short_met, short_or_plain, subcommand, subcommand_met, subcommand_or_other, takes_several, takes_values, to_positional, trailing, used_by_id, value, waits, walk, walk_from, walked, walked_from, word_met}
use Rattle.clap.specs.Simple.{Shape}
use Rattle.clap.specs.declared.error.kind.ErrorKind.TheVariants as kind
use Rattle.clap.specs.Faults.{bundle_step_fault, check_fault, defaults_fault, flag_word_fault, flags_fault, level_fault, long_fault, option_fault, other_fault, positional_fault, react_fault, settle_fault, short_fault, step_fault, stray_fault, turn_fault, use_fault, walk_fault, word_fault}
use Rattle.command_words.specs.declared.number_option.NumberOption.{NumberOption}
use Rattle.command_words.proofs.GoodRows.{AllWell, Goods, UsesWell, WellOption, defaults_good, or_else_parts, well_found}

abbrev GoodHeld : NumberOption → Held → Type 0
GoodHeld which held = Goods which held.rows

by_id_good : (which : NumberOption) (o : Option Rule) → WellOption which o → (values : List Text) (rows : List Row) → Goods which rows
    → option_map_or (λ rule. use_fault false rule values rows) o [] ≡ [] → Goods which (used_by_id o values rows)
by_id_good which None well values rows good fine = good
by_id_good which (Some rule) well values rows good fine = well values rows good fine

settled_good : (which : NumberOption) (rules : List Rule) → AllWell which rules → (held : Held) → GoodHeld which held → settle_fault rules false held ≡ []
    → GoodHeld which (settled rules held)
settled_good which rules well held good fine = go held.pending fine
  where
    go : (p : Option (Text × List Text)) → option_map_or (λ q. option_map_or (λ rule. use_fault false rule q.1 held.rows) (arg_by_id rules q.0) []) p [] ≡ []
        → Goods which (settled_rows rules p held.rows)
    go None fine = good
    go (Some p) fine = by_id_good which (arg_by_id rules p.0) (well_found which (λ rule. bytes_eq rule.id p.0) rules well) p.1 held.rows good fine

reacted_good : (which : NumberOption) (rules : List Rule) → AllWell which rules → (rule : Rule) → UsesWell which rule → (values : List Text) (held : Held)
    → GoodHeld which held → react_fault rules false rule values held ≡ [] → GoodHeld which (reacted rules rule values held)
reacted_good which rules well rule uses values held good fine =
    let parts = or_else_parts _ _ fine in
    uses values (settled rules held).rows (settled_good which rules well held good parts.0) parts.1

option_good : (which : NumberOption) (rules : List Rule) → AllWell which rules → (rule : Rule) → UsesWell which rule → (v : Option Text) (held : Held)
    → GoodHeld which held → option_fault rules false rule v held ≡ [] → GoodHeld which (option_met rules rule v held).0
option_good which rules well rule uses (Some v) held good fine = reacted_good which rules well rule uses (v ∷ []) held good fine
option_good which rules well rule uses None held good fine = settled_good which rules well held good fine

flag_good : (which : NumberOption) (rules : List Rule) → AllWell which rules → (rule : Rule) → UsesWell which rule → (v : Option Text) (held : Held)
    → GoodHeld which held → cond (is_some v) (kind.TooManyValues ∷ []) (react_fault rules false rule [] held) ≡ [] → GoodHeld which (flag_met rules rule v held).0
flag_good which rules well rule uses (Some v) held good fine = good
flag_good which rules well rule uses None held good fine = reacted_good which rules well rule uses [] held good fine

long_good : (which : NumberOption) (rules : List Rule) → AllWell which rules → (o : Option Rule) → WellOption which o → (v : Option Text) (held : Held)
    → GoodHeld which held → long_fault rules false o v held ≡ [] → GoodHeld which (long_met rules o v held).0
long_good which rules well None uses v held good fine = good
long_good which rules well (Some rule) uses v held good fine = go (takes_values rule) fine
  where
    go : (b : Bool) → cond b (option_fault rules false rule v held) (cond (is_some v) (kind.TooManyValues ∷ []) (react_fault rules false rule [] held)) ≡ []
        → GoodHeld which (cond b (option_met rules rule v held) (flag_met rules rule v held)).0
    go true fine = option_good which rules well rule uses v held good fine
    go false fine = flag_good which rules well rule uses v held good fine

option_word_good : (which : NumberOption) (o : Option Rule) (id word : Text) (held : Held) → GoodHeld which held → GoodHeld which (option_word o id word held).0
option_word_good which None id word held good = good
option_word_good which (Some rule) id word held good = good

plain_good : (which : NumberOption) (rules : List Rule) (waiting : Waiting) (word : Text) (held : Held) → GoodHeld which held → GoodHeld which (plain_word rules waiting word held).0
plain_good which rules (option id) word held good = option_word_good which (arg_by_id rules id) id word held good
plain_good which rules idle word held good = good
plain_good which rules positional word held good = good

after_good : (which : NumberOption) (rules : List Rule) (waiting : Waiting) (word : Text) (held : Held) (outcome : Outcome) → GoodHeld which held
    → GoodHeld which (after_flag rules waiting word held outcome).0
after_good which rules waiting word held done good = good
after_good which rules waiting word held (waits id) good = good
after_good which rules waiting word held plain good = plain_good which rules waiting word held good
after_good which rules waiting word held refused good = plain_good which rules waiting word held good

short_good : (which : NumberOption) (rules : List Rule) → AllWell which rules → (o : Option Rule) → WellOption which o → (rest : Text) (held : Held)
    → (next_fault : Held → Kinds) (next_met : Held → Held × Outcome)
    → ((h : Held) → GoodHeld which h → next_fault h ≡ [] → GoodHeld which (next_met h).0)
    → GoodHeld which held → short_fault rules false o rest held next_fault ≡ [] → GoodHeld which (short_met rules o rest held next_met).0
short_good which rules well None uses rest held next_fault next_met more good fine = good
short_good which rules well (Some rule) uses rest held next_fault next_met more good fine = go (takes_values rule) fine
  where
    go : (b : Bool) → cond b (option_fault rules false rule (attached_value rest) held) (or_else (react_fault rules false rule [] held) (next_fault (reacted rules rule [] held))) ≡ []
        → GoodHeld which (cond b (option_met rules rule (attached_value rest) held) (next_met (reacted rules rule [] held))).0
    go true fine = option_good which rules well rule uses (attached_value rest) held good fine
    go false fine =
        let parts = or_else_parts _ _ fine in
        more (reacted rules rule [] held) (reacted_good which rules well rule uses [] held good parts.0) parts.1

step_good : (which : NumberOption) (rules : List Rule) → AllWell which rules → (x : Option ℕ) (flags : Text) (skip : ℕ) (so_far : Outcome) (held : Held)
    → (next_fault : Text → ℕ → Held → Kinds) (next_met : Text → ℕ → Outcome → Held → Held × Outcome)
    → ((more : Text) (left : ℕ) (o : Outcome) (h : Held) → GoodHeld which h → next_fault more left h ≡ [] → GoodHeld which (next_met more left o h).0)
    → GoodHeld which held → bundle_step_fault rules false x flags skip held next_fault ≡ [] → GoodHeld which (bundle_step rules x flags skip so_far held next_met).0
step_good which rules well None flags skip so_far held next_fault next_met more good fine = good
step_good which rules well (Some x) flags zero so_far held next_fault next_met more good fine =
    let rest = drop (length (encode_utf8 x)) flags in
    short_good which rules well (arg_by_short rules x) (well_found which _ rules well) rest held (next_fault rest 0) (next_met rest 0 done) (more rest 0 done) good fine
step_good which rules well (Some x) flags (suc skip) so_far held next_fault next_met more good fine =
    more (drop (length (encode_utf8 x)) flags) skip so_far held good fine

bundle_good : (which : NumberOption) (rules : List Rule) → AllWell which rules → (k : ℕ) (flags : Text) (skip : ℕ) (so_far : Outcome) (held : Held)
    → GoodHeld which held → flags_fault rules false k flags skip held ≡ [] → GoodHeld which (bundle_met rules k flags skip so_far held).0
unfolding bundle_met flags_fault
bundle_good which rules well zero flags skip so_far held good fine = good
bundle_good which rules well (suc k) flags skip so_far held good fine =
    step_good which rules well (slice_get (chars flags) 0) flags skip so_far held (flags_fault rules false k) (bundle_met rules k)
    (λ more left o h good_h fine_h. bundle_good which rules well k more left o h good_h fine_h) good fine

short_or_plain_good : (which : NumberOption) (rules : List Rule) → AllWell which rules → (waiting : Waiting) (word : Text) (flags : Option Text) (held : Held) → GoodHeld which held
    → option_map_or (λ some_flags. flags_fault rules false (length some_flags) some_flags held.skip (record held { skip = 0 })) flags [] ≡ []
    → GoodHeld which (short_or_plain rules waiting word flags held).0
short_or_plain_good which rules well waiting word None held good fine = plain_good which rules waiting word held good
short_or_plain_good which rules well waiting word (Some flags) held good fine =
    after_good which rules waiting word _ _ (bundle_good which rules well (length flags) flags held.skip plain (record held { skip = 0 }) good fine)

long_or_other_good : (which : NumberOption) (rules : List Rule) → AllWell which rules → (waiting : Waiting) (word : Text) (p : Option (Text × Option Text)) (held : Held) → GoodHeld which held
    → flag_word_fault rules false p word held ≡ [] → GoodHeld which (long_or_other rules waiting word p held).0
long_or_other_good which rules well waiting word (Some p) held good fine =
    after_good which rules waiting word _ _ (long_good which rules well (arg_by_long rules p.0) (well_found which _ rules well) p.1 held good fine)
long_or_other_good which rules well waiting word None held good fine = short_or_plain_good which rules well waiting word (short_of word) held good fine

other_good : (which : NumberOption) (s : Shape) → AllWell which s.rules → s.args_override_self ≡ false → (met : Option Text) (waiting : Waiting) (position : ℕ) (word : Text) (held : Held)
    → GoodHeld which held → other_fault s met word held ≡ [] → GoodHeld which (subcommand_or_other s.rules met waiting position word held).0
other_good which s well once (Some name) waiting position word held good fine = good
other_good which s well once None waiting position word held good fine =
    go (bytes_eq word (45 ∷ 45 ∷ [])) (subst (λ (again : Bool). cond (bytes_eq word (45 ∷ 45 ∷ [])) [] (flag_word_fault s.rules again (long_of word) word held) ≡ []) once fine)
  where
    go : (b : Bool) → cond b [] (flag_word_fault s.rules false (long_of word) word held) ≡ []
        → GoodHeld which (cond b (held, trailing position) (long_or_other s.rules waiting word (long_of word) held)).0
    go true fine = good
    go false fine = long_or_other_good which s.rules well waiting word (long_of word) held good fine

word_good : (which : NumberOption) (s : Shape) → AllWell which s.rules → s.args_override_self ≡ false → (names : Names) (is_trailing : Bool) (waiting : Waiting) (position : ℕ) (word : Text) (held : Held)
    → GoodHeld which held → word_fault s names is_trailing waiting word held ≡ [] → GoodHeld which (word_met s.rules names is_trailing waiting position word held).0
word_good which s well once names true waiting position word held good fine = good
word_good which s well once names false waiting position word held good fine = other_good which s well once (subcommand_met names waiting word) waiting position word held good fine

positional_good : (which : NumberOption) (rules : List Rule) → AllWell which rules → (o : Option Rule) (word : Text) (w : Walk) (held : Held) (strays : Kinds) → GoodHeld which held
    → option_map_or (λ rule. positional_fault rules false rule held) o strays ≡ [] → GoodHeld which (to_positional rules o word w held).held
positional_good which rules well None word w held strays good fine = good
positional_good which rules well (Some rule) word w held strays good fine = go (is_pending rule held.pending && takes_several rule) fine
  where
    go : (b : Bool) → cond b [] (settle_fault rules false held) ≡ [] → GoodHeld which (pushed rule.id word (cond b held (settled rules held)))
    go true fine = good
    go false fine = settled_good which rules well held good fine

turn_good : (which : NumberOption) (s : Shape) → AllWell which s.rules → s.args_override_self ≡ false → (word : Text) (w : Walk) (held : Held) (step : Step)
    → GoodHeld which held → step_fault s w.position held step ≡ [] → GoodHeld which (after_step s.rules word w held step).held
turn_good which s well once word w held (next waiting) good fine = good
turn_good which s well once word w held (trailing position) good fine = good
turn_good which s well once word w held (subcommand name) good fine = good
turn_good which s well once word w held value good fine =
    positional_good which s.rules well (arg_by_index s.rules w.position) word w held (stray_fault s) good
    (subst (λ (again : Bool). option_map_or (λ rule. positional_fault s.rules again rule held) (arg_by_index s.rules w.position) (stray_fault s) ≡ []) once fine)

walked_good : (which : NumberOption) (s : Shape) → AllWell which s.rules → s.args_override_self ≡ false → (names : Names) (w : Walk) (word : Text)
    → GoodHeld which w.held → turn_fault s names w word ≡ [] → GoodHeld which (walked s.rules names w word).held
unfolding walked
walked_good which s well once names w word good fine = go w.stopped fine
  where
    go : (stopped : Option (Text × List Text))
        → cond (is_some stopped) [] (or_else (word_fault s names w.is_trailing w.waiting word w.held) (step_fault s w.position (word_met s.rules names w.is_trailing w.waiting w.position word w.held).0 (word_met s.rules names w.is_trailing w.waiting w.position word w.held).1)) ≡ []
        → GoodHeld which (walked_from s.rules names stopped w word).held
    go (Some p) fine = good
    go None fine =
        let parts = or_else_parts _ _ fine in
        turn_good which s well once word w _ _ (word_good which s well once names w.is_trailing w.waiting w.position word w.held good parts.0) parts.1

walk_good : (which : NumberOption) (s : Shape) → AllWell which s.rules → s.args_override_self ≡ false → (names : Names) (w : Walk) (words : List Text)
    → GoodHeld which w.held → walk_fault s names w words ≡ [] → GoodHeld which (fold (walked s.rules names) w words).held
unfolding walk_fault
walk_good which s well once names w [] good fine = good
walk_good which s well once names w (word ∷ words) good fine =
    let parts = or_else_parts _ _ fine in
    walk_good which s well once names (walked s.rules names w word) words (walked_good which s well once names w word good parts.0) parts.1

-- the rows of a level that has no fault
pub level_good : (which : NumberOption) (s : Shape) → AllWell which s.rules → s.args_override_self ≡ false → (words : List Text)
    → level_fault s [] nothing_held words false [] ≡ [] → Goods which (rows_after s.rules [] words)
level_good which s well once words fine =
    let parts = or_else_parts _ _ fine in
    let end = (walk s.rules [] nothing_held words).held in
    let settles = (or_else_parts _ _ parts.1).0 in
    defaults_good which s.rules well (settled s.rules end).rows
    (settled_good which s.rules well end (walk_good which s well once [] (walk_from nothing_held) words tt parts.0)
    (subst (λ (again : Bool). settle_fault s.rules again end ≡ []) once settles))

-- and its last check has none
pub level_checks : (s : Shape) (words : List Text) → level_fault s [] nothing_held words false [] ≡ [] → check_fault s (rows_after s.rules [] words) false ≡ []
level_checks s words fine =
    let end = (walk s.rules [] nothing_held words).held in
    let after_walk = or_else (settle_fault s.rules s.args_override_self end) (or_else (defaults_fault (settled s.rules end).rows s.rules) (check_fault s (finished s.rules end) false)) in
    let walks = or_else_parts (walk_fault s [] (walk_from nothing_held) words) after_walk fine in
    let settles = or_else_parts (settle_fault s.rules s.args_override_self end) _ walks.1 in
    (or_else_parts (defaults_fault (settled s.rules end).rows s.rules) _ settles.1).1
