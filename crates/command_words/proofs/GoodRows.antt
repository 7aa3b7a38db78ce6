-- Where clap gives no fault, what it found of an option reads as a number in its range.
use Rattle.std.proofs.Common.{◌≡◌, ℕ, List, [], ◌∷◌, ◌++◌, Bool, true, false, cond, codes, is_some, fold, Option, Some, None, refl, subst}
use Rattle.std.specs.Prelude.{find, option_and_then, option_map, slice_get}
use Rattle.std.specs.Str.{bytes_eq}
use Rattle.clap.specs.Kinds.{Kinds, or_else, value_kinds}
use Rattle.std.specs.Str.Parse.{digits_value, without_leading_plus}
use Rattle.clap.specs.Values.{read_as, refused_kind}
use Rattle.clap.specs.declared.error.kind.ErrorKind.TheVariants as kind
use Rattle.clap.specs.ValueTests.{accepts}
use Rattle.clap.specs.Walk.{Row, Rule, Text, at_row, has_row, more_values, row_text, used, with_default, with_values, without}
use Rattle.clap.specs.Simple.{filled, help_rule}
use Rattle.clap.specs.Faults.{use_fault}
use Rattle.clap.specs.declared.builder.value_parser.Reading.TheVariants as reading
use Rattle.clap.specs.declared.builder.value_parser.ValueParser.TheVariants as parser
use Rattle.clap.specs.declared.parser.matches.ValueSource.{ValueSource}
use Rattle.clap.specs.declared.parser.matches.ValueSource.TheVariants as source
use Rattle.command_words.specs.Options.{name_of, low_of, high_of}
use Rattle.command_words.specs.Program.{number_rule}
use Rattle.command_words.specs.Accepted.{number_of, number_text}
use Rattle.command_words.specs.declared.number_option.NumberOption.{NumberOption}
use Rattle.command_words.proofs.Rows.{named}

-- a row, if it is the option's, is read as a number in its range
abbrev pub IsGood : NumberOption → Row → Type 0
IsGood which row = bytes_eq row.id (name_of which) ≡ true → is_some (option_and_then (number_text (low_of which) (high_of which)) (row_text row)) ≡ true

abbrev pub Goods : NumberOption → List Row → Type 0
Goods which [] = Unit
Goods which (row ∷ rows) = IsGood which row × Goods which rows

goods-append : (which : NumberOption) (rows more : List Row) → Goods which rows → Goods which more → Goods which (rows ++ more)
goods-append which [] more good good_more = good_more
goods-append which (row ∷ rows) more good good_more = (good.0, goods-append which rows more good.1 good_more)

goods-at_row : (which : NumberOption) (id : Text) (change : Row → List Row) (missing rows : List Row) → Goods which missing
    → ((row : Row) → IsGood which row → Goods which (change row)) → Goods which rows → Goods which (at_row id change missing rows)
goods-at_row which id change missing [] added changed good = added
goods-at_row which id change missing (row ∷ rows) added changed good =
    go (bytes_eq row.id id) (goods-at_row which id change missing rows added changed good.1)
  where
    go : (b : Bool) → Goods which (at_row id change missing rows) → Goods which (cond b (change row ++ rows) (row ∷ at_row id change missing rows))
    go true rest = goods-append which (change row) rows (changed row good.0) good.1
    go false rest = (good.0, rest)

-- more values leave the first one
good-more : (which : NumberOption) (s : ValueSource) (more : List Text) (row : Row) → IsGood which row → Goods which (more_values s more row)
good-more which s more row good = ((λ same. go row.values (good same)), tt)
  where
    go : (values : List Text) → is_some (option_and_then (number_text (low_of which) (high_of which)) (option_map (read_as row.reading) (slice_get values 0))) ≡ true
        → is_some (option_and_then (number_text (low_of which) (high_of which)) (option_map (read_as row.reading) (slice_get (values ++ more) 0))) ≡ true
    go [] h = let bad : false ≡ true = h in absurd cc
    go (value ∷ values) h = h

-- an argument's use and its default leave rows good
abbrev pub UsesWell : NumberOption → Rule → Type 0
UsesWell which rule = (values : List Text) (rows : List Row) → Goods which rows → use_fault false rule values rows ≡ [] → Goods which (used rule values rows)

abbrev pub DefaultsWell : NumberOption → Rule → Type 0
DefaultsWell which rule = (rows : List Row) → Goods which rows → Goods which (with_default rows rule)

abbrev pub AllWell : NumberOption → List Rule → Type 0
AllWell which [] = Unit
AllWell which (rule ∷ rules) = (UsesWell which rule × DefaultsWell which rule) × AllWell which rules

-- an option as clap has built it, with these defaults
abbrev pub built_rule : NumberOption → List Text → Bool → Rule
built_rule one defaults required = record (filled (number_rule one)) { defaults = defaults; required = required }

pub or_else_parts : (a b : Kinds) → or_else a b ≡ [] → (a ≡ []) × (b ≡ [])
or_else_parts [] b e = (refl, e)
or_else_parts (k ∷ ks) b e = absurd cc

taken_number : (low high : ℕ) (text : Text) → value_kinds false (parser.Unsigned low high) text ≡ [] → is_some (number_text low high text) ≡ true
taken_number low high text = go (accepts false (parser.Unsigned low high) text)
  where
    go : (b : Bool) → cond b [] (refused_kind (parser.Unsigned low high) ∷ []) ≡ []
        → is_some (cond b (Some (digits_value 10 (without_leading_plus text))) None) ≡ true
    go true e = refl
    go false e = absurd cc

new_good : (which one : NumberOption) → (bytes_eq (name_of one) (name_of which) ≡ true → one ≡ which) → (s : ValueSource) (value : Text) (values : List Text)
    → is_some (number_text (low_of one) (high_of one) value) ≡ true
    → IsGood which (record { id = name_of one; values = value ∷ values; count = None; source = Some s; reading = reading.AsWritten })
new_good which one same s value values is e = subst (λ (o : NumberOption). is_some (number_text (low_of o) (high_of o) value) ≡ true) (same e) is

uses_built : (which one : NumberOption) → (bytes_eq (name_of one) (name_of which) ≡ true → one ≡ which) → (defaults : List Text) (required : Bool)
    → UsesWell which (built_rule one defaults required)
uses_built which one same defaults required [] rows good fine = let bad : kind.InvalidValue ∷ [] ≡ [] = fine in absurd cc
uses_built which one same defaults required (value ∷ values) rows good fine =
    let kinds = (or_else_parts _ _ (or_else_parts _ _ fine).1).1 in
    let number = taken_number (low_of one) (high_of one) value (or_else_parts _ _ kinds).0 in
    goods-at_row which (name_of one) (more_values source.CommandLine (value ∷ values)) _ (without (name_of one) rows)
    (new_good which one same source.CommandLine value values number, tt)
    (good-more which source.CommandLine (value ∷ values))
    (goods-at_row which (name_of one) (λ _. []) [] rows tt (λ row is. tt) good)

-- the default is a number in the option's range
abbrev pub DefaultFits : NumberOption → List Text → Type 0
DefaultFits one [] = Unit
DefaultFits one (value ∷ values) = is_some (number_text (low_of one) (high_of one) value) ≡ true

defaults_built : (which one : NumberOption) → (bytes_eq (name_of one) (name_of which) ≡ true → one ≡ which) → (defaults : List Text) (required : Bool)
    → DefaultFits one defaults → DefaultsWell which (built_rule one defaults required)
defaults_built which one same [] required fits rows good = go (has_row (name_of one) rows)
  where
    go : (b : Bool) → Goods which (cond b rows rows)
    go true = good
    go false = good
defaults_built which one same (value ∷ values) required fits rows good = go (has_row (name_of one) rows)
  where
    go : (b : Bool) → Goods which (cond b rows (with_values (name_of one) reading.AsWritten source.DefaultValue (value ∷ values) rows))
    go true = good
    go false = goods-at_row which (name_of one) (more_values source.DefaultValue (value ∷ values)) _ rows
        (new_good which one same source.DefaultValue value values fits, tt) (good-more which source.DefaultValue (value ∷ values)) good

pub built_well : (which one : NumberOption) → (bytes_eq (name_of one) (name_of which) ≡ true → one ≡ which) → (defaults : List Text) (required : Bool)
    → DefaultFits one defaults → UsesWell which (built_rule one defaults required) × DefaultsWell which (built_rule one defaults required)
built_well which one same defaults required fits = (uses_built which one same defaults required, defaults_built which one same defaults required fits)

help_default : (which : NumberOption) → DefaultsWell which (filled help_rule)
help_default which rows good = go (has_row (codes "help") rows)
  where
    go : (b : Bool) → Goods which (cond b rows rows)
    go true = good
    go false = good

pub help_well : (which : NumberOption) → UsesWell which (filled help_rule) × DefaultsWell which (filled help_rule)
help_well which = ((λ values rows good fine. good), help_default which)

pub defaults_good : (which : NumberOption) (rules : List Rule) → AllWell which rules → (rows : List Row) → Goods which rows → Goods which (fold with_default rows rules)
defaults_good which [] well rows good = good
defaults_good which (rule ∷ rules) well rows good = defaults_good which rules well.1 (with_default rows rule) (well.0.1 rows good)

abbrev pub WellOption : NumberOption → Option Rule → Type 0
WellOption which None = Unit
WellOption which (Some rule) = UsesWell which rule

pub well_found : (which : NumberOption) (test : Rule → Bool) (rules : List Rule) → AllWell which rules → WellOption which (find test rules)
well_found which test [] well = tt
well_found which test (rule ∷ rules) well = go (test rule) (well_found which test rules well.1)
  where
    go : (b : Bool) → WellOption which (find test rules) → WellOption which (cond b (Some rule) (find test rules))
    go true rest = well.0.0
    go false rest = rest

-- an option that is found among good rows has its number
pub number_good : (which : NumberOption) (rows : List Row) → Goods which rows → is_some (find (named (name_of which)) rows) ≡ true → is_some (number_of which rows) ≡ true
number_good which [] good e = let bad : false ≡ true = e in absurd cc
number_good which (row ∷ rows) good e = go (bytes_eq row.id (name_of which)) refl (number_good which rows good.1) e
  where
    go : (b : Bool) → bytes_eq row.id (name_of which) ≡ b → (is_some (find (named (name_of which)) rows) ≡ true → is_some (number_of which rows) ≡ true)
        → is_some (cond b (Some row) (find (named (name_of which)) rows)) ≡ true
        → is_some (option_and_then (number_text (low_of which) (high_of which)) (option_and_then row_text (cond b (Some row) (find (named (name_of which)) rows)))) ≡ true
    go true same rest e = good.0 same
    go false same rest e = rest e
