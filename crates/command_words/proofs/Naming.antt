-- What a subcommand makes of its options, by their names.
use Rattle.std.proofs.Common.{◌≡◌, ◌∙◌, ◌⊎◌, ℕ, ◌<◌, ◌^◌, ◌==◌, List, [], ◌∷◌, ◌++◌, Bool, true, false, ◌||◌, if◌then◌else◌, map, Option, Some, None, codes, refl, sym, ap, ap₂, subst, inl, inr, arith}
use Rattle.std.specs.Prelude.{All, unwrap_or}
use Rattle.std.specs.Option.{option_or}
use Rattle.std.specs.Str.{bytes_eq}
use Rattle.std.specs.Str.Parse.{IsNumeral}
use Rattle.clap.specs.Kinds.{Kinds, or_else}
use Rattle.clap.specs.Walk.{Held, Row, Rule, Text, has_row, is_empty, settled_rows, used_as, walk_from, walked, with_default}
use Rattle.clap.specs.Simple.{Shape}
use Rattle.clap.specs.Faults.{check_fault, defaults_fault, given_default_fault, settle_fault, walk_fault}
use Rattle.clap.specs.ValueTests.{accepts}
use Rattle.clap.specs.declared.builder.action.ArgAction.TheVariants as action
use Rattle.clap.specs.declared.builder.value_parser.Reading.TheVariants as reading
use Rattle.clap.specs.declared.builder.value_parser.ValueParser.TheVariants as parser
use Rattle.clap.proofs.OnLiterals.{clap_on_literals}
use Rattle.command_words.specs.Accepted.{command_in, unless_fault}
use Rattle.command_words.specs.Options.{name_of, low_of, high_of}
use Rattle.command_words.specs.declared.number_option.NumberOption.{NumberOption}
use Rattle.command_words.specs.declared.number_option.NumberOption.TheVariants as option
use Rattle.command_words.specs.WordLaws.{Use, IsUse, words_of}
use Rattle.command_words.proofs.Rows.{Fresh, IsReadAs, row_of_use, used_fresh}
use Rattle.command_words.proofs.GoodRows.{or_else_parts}
use Rattle.command_words.proofs.Walks.{Takes, held_after, level_fine, level_rows, rows_with_defaults}
use Rattle.command_words.proofs.Entering.{made_by}
use Rattle.command_words.proofs.Digits.{decimal_accepted, decimal_number, no_minus}

-- what a subcommand makes of the option of this name, with a number from low to high
pub record TakesNamed (s : Shape) (name : Text) (low high : ℕ) : Type 0 where
  pub steps : (held : Held) (d : ℕ) (ds : List ℕ) → (d == 45) ≡ false
      → walked s.rules [] (walked s.rules [] (walk_from held) (codes "--" ++ name)) (d ∷ ds) ≡ walk_from (held_after s.rules held (name, d ∷ ds))
  pub fine : (held : Held) (d : ℕ) (ds : List ℕ) (words : List Text) → (d == 45) ≡ false → settle_fault s.rules s.args_override_self held ≡ []
      → walk_fault s [] (walk_from held) ((codes "--" ++ name) ∷ (d ∷ ds) ∷ words) ≡ walk_fault s [] (walk_from (held_after s.rules held (name, d ∷ ds))) words
  pub settles : (rows : List Row) (text : Text) → settled_rows s.rules (Some (name, text ∷ [])) rows ≡ used_as action.Set name reading.AsWritten (text ∷ []) rows
  pub settles_fine : (rows : List Row) (skip : ℕ) (text : Text) → accepts false (parser.Unsigned low high) text ≡ true → has_row name rows ≡ false
      → settle_fault s.rules s.args_override_self (record { rows = rows; pending = Some (name, text ∷ []); skip = skip }) ≡ []

steps_of : {s : Shape} {name : Text} {low high : ℕ} → TakesNamed s name low high → (held : Held) (text : Text) → IsNumeral 10 text
    → walked s.rules [] (walked s.rules [] (walk_from held) (codes "--" ++ name)) text ≡ walk_from (held_after s.rules held (name, text))
steps_of t held [] digits = absurd (omega (arith, digits.0))
steps_of t held (d ∷ ds) digits = t.steps held d ds (no_minus d ds digits)

fine_of : {s : Shape} {name : Text} {low high : ℕ} → TakesNamed s name low high → (held : Held) (text : Text) (words : List Text) → IsNumeral 10 text
    → settle_fault s.rules s.args_override_self held ≡ []
    → walk_fault s [] (walk_from held) ((codes "--" ++ name) ∷ text ∷ words) ≡ walk_fault s [] (walk_from (held_after s.rules held (name, text))) words
fine_of t held [] words digits fine = absurd (omega (arith, digits.0))
fine_of t held (d ∷ ds) words digits fine = t.fine held d ds words (no_minus d ds digits) fine

high_fits : (which : NumberOption) → high_of which < 2 ^ 64
high_fits option.Threads = omega arith
high_fits option.Buffer = omega arith
high_fits option.Merge = omega arith
high_fits option.Keep = omega arith
high_fits option.Commit = omega arith
high_fits option.Seed = omega arith
high_fits option.Lines = omega arith
high_fits option.Callers = omega arith

pub takes_named : {s : Shape} (which : NumberOption) → TakesNamed s (name_of which) (low_of which) (high_of which) → Takes s (IsUse which)
takes_named {s} which t = record {
  steps = λ one is held. subst (λ (n : Text). walked s.rules [] (walked s.rules [] (walk_from held) (codes "--" ++ n)) one.1 ≡ walk_from (held_after s.rules held (n, one.1)))
      (sym is.0) (steps_of t held one.1 is.1);
  fine = λ one is held words fine. subst (λ (n : Text). walk_fault s [] (walk_from held) ((codes "--" ++ n) ∷ one.1 ∷ words) ≡ walk_fault s [] (walk_from (held_after s.rules held (n, one.1))) words)
      (sym is.0) (fine_of t held one.1 words is.1 fine);
  settles = λ one is rows free. subst (λ (n : Text). settled_rows s.rules (Some (n, one.1 ∷ [])) rows ≡ used_as action.Set n reading.AsWritten (one.1 ∷ []) rows)
      (sym is.0) (t.settles rows one.1)
      ∙ used_fresh one rows free;
  settles_fine = λ one is rows skip free. subst (λ (n : Text). settle_fault s.rules s.args_override_self (record { rows = rows; pending = Some (n, one.1 ∷ []); skip = skip }) ≡ [])
      (sym is.0) (t.settles_fine rows skip one.1 (decimal_accepted _ _ one.1 (high_fits which) (is.1, is.2.0, is.2.1)) (ap (λ (n : Text). has_row n rows) (sym is.0) ∙ free));
}

pub takes_either : {s : Shape} {P Q : Use → Type 0} → Takes s P → Takes s Q → Takes s (λ one. P one ⊎ Q one)
takes_either t u = record {
  steps = λ one is held. elim is [ inl p ↦ t.steps one p held | inr q ↦ u.steps one q held ];
  fine = λ one is held words fine. elim is [ inl p ↦ t.fine one p held words fine | inr q ↦ u.fine one q held words fine ];
  settles = λ one is rows free. elim is [ inl p ↦ t.settles one p rows free | inr q ↦ u.settles one q rows free ];
  settles_fine = λ one is rows skip free. elim is [ inl p ↦ t.settles_fine one p rows skip free | inr q ↦ u.settles_fine one q rows skip free ];
}

-- whatever option is given is read as this one's number, if it has its name
abbrev pub Numbers : NumberOption → (Use → Type 0) → Type 0
Numbers which P = (one : Use) → P one → IsReadAs which one

pub own : (which : NumberOption) → Numbers which (IsUse which)
own which one is e = decimal_number (low_of which) (high_of which) one.1 (high_fits which) (is.1, is.2.0, is.2.1)

pub another : (other which : NumberOption) → bytes_eq (name_of other) (name_of which) ≡ false → Numbers which (IsUse other)
another other which apart one is e =
    let same : bytes_eq (name_of other) (name_of which) ≡ true = ap (λ (n : Text). bytes_eq n (name_of which)) (sym is.0) ∙ e in
    let bad : false ≡ true = sym apart ∙ same in
    absurd cc

pub numbers_either : {P Q : Use → Type 0} → (which : NumberOption) → Numbers which P → Numbers which Q → Numbers which (λ one. P one ⊎ Q one)
numbers_either which left right one (inl p) e = left one p e
numbers_either which left right one (inr q) e = right one q e

pub or_default : (o : Option ℕ) (n : ℕ) → option_or o (Some n) ≡ Some (unwrap_or o n)
or_default None n = refl
or_default (Some m) n = refl

pub or_none : (o : Option ℕ) → option_or o None ≡ o
or_none None = refl
or_none (Some m) = refl

-- the faults of defaults, wherever they are wanted
abbrev pub default_kinds : List Rule → Kinds
default_kinds [] = []
default_kinds (rule ∷ rules) = or_else (if is_empty rule.defaults then [] else given_default_fault rule rule.defaults) (default_kinds rules)

pub defaults_fine : (rules : List Rule) (rows : List Row) → default_kinds rules ≡ [] → defaults_fault rows rules ≡ []
unfolding clap_on_literals
defaults_fine [] rows e = refl
defaults_fine (rule ∷ rules) rows e =
    ap₂ or_else (first (has_row rule.id rows)) (defaults_fine rules (with_default rows rule) (or_else_parts _ _ e).1)
  where
    first : (b : Bool) → (if b || is_empty rule.defaults then [] else given_default_fault rule rule.defaults) ≡ []
    first true = refl
    first false = (or_else_parts _ _ e).0

-- the command that a subcommand's own level makes of the options
pub made_of_uses : {s : Shape} {P : Use → Type 0} → (name : Text) → Takes s P → (uses : List Use) → All P uses → Fresh [] uses
    → default_kinds s.rules ≡ [] → check_fault s (rows_with_defaults s uses) false ≡ []
    → made_by name s (words_of uses) ≡ command_in (name, rows_with_defaults s uses)
made_of_uses {s} name t uses all fresh defaults checks =
    ap₂ (λ (faults : Kinds) (rows : List Row). unless_fault (or_else faults []) (Some (name, rows)))
    (level_fine t uses all fresh (defaults_fine s.rules (map row_of_use uses) defaults) checks) (level_rows t uses all fresh)
