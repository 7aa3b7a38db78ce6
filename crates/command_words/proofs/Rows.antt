-- Rows that clap makes of options that are given once, and of defaults.
use Rattle.std.proofs.Common.{◌≡◌, ◌≢◌, ◌∙◌, ℕ, suc, List, [], ◌∷◌, ◌++◌, Bool, true, false, ◌||◌, cond, map, fold, Option, Some, None, refl, sym, ap, append-nil, arith}
use Rattle.std.specs.Prelude.{find, All, option_map, option_and_then, is_some}
use Rattle.std.specs.List.{slice_index_or}
use Rattle.std.specs.Option.{option_or, option_map_or}
use Rattle.std.specs.Str.{bytes_eq}
use Rattle.std.specs.Str.Parse.{digits_value}
use Rattle.std.proofs.lemmas.Bool.{or_parts, false_from_ne_true}
use Rattle.std.proofs.lemmas.List.Elements.{All-head, All-tail}
use Rattle.std.proofs.lemmas.List.Folds.{find-append, list_any-append}
use Rattle.std.proofs.lemmas.Slice.Eq.{bytes_eq-Decides}
use Rattle.clap.specs.Walk.{Row, Rule, Text, at_row, default_rows, has_row, more_values, reading_by, row_text, used_as, with_default, with_values}
use Rattle.clap.specs.Facts.{explicit_source}
use Rattle.clap.specs.Takes.{is_given}
use Rattle.clap.specs.declared.builder.value_parser.Reading.{Reading}
use Rattle.clap.specs.declared.builder.value_parser.Reading.TheVariants as reading
use Rattle.clap.specs.declared.builder.action.ArgAction.TheVariants as action
use Rattle.clap.specs.declared.parser.matches.ValueSource.TheVariants as source
use Rattle.command_words.specs.Accepted.{number_text, number_of}
use Rattle.command_words.specs.Options.{name_of, low_of, high_of}
use Rattle.command_words.specs.declared.number_option.NumberOption.{NumberOption}
use Rattle.command_words.specs.WordLaws.{Use, EachOnce, given}

-- the row of an option that is given
abbrev pub row_of_use : Use → Row
row_of_use one = record {
  id = one.0;
  values = one.1 ∷ [];
  count = None;
  source = Some source.CommandLine;
  reading = reading.AsWritten;
}

-- no option has a row before it comes
abbrev pub Fresh : List Row → List Use → Type 0
Fresh rows [] = Unit
Fresh rows (one ∷ uses) = (has_row one.0 rows ≡ false) × Fresh (rows ++ row_of_use one ∷ []) uses

pub at_row-missing : (id : Text) (change : Row → List Row) (missing rows : List Row) → has_row id rows ≡ false → at_row id change missing rows ≡ rows ++ missing
at_row-missing id change missing [] e = refl
at_row-missing id change missing (r ∷ rows) e =
    let parts = or_parts (bytes_eq r.id id) (has_row id rows) e in
    rw parts.0 (ap (λ (rest : List Row). r ∷ rest) (at_row-missing id change missing rows parts.1))

pub used_fresh : (one : Use) (rows : List Row) → has_row one.0 rows ≡ false
    → used_as action.Set one.0 reading.AsWritten (one.1 ∷ []) rows ≡ rows ++ row_of_use one ∷ []
used_fresh one rows e =
    ap (with_values one.0 reading.AsWritten source.CommandLine (one.1 ∷ [])) (at_row-missing one.0 (λ _. []) [] rows e ∙ append-nil rows)
    ∙ at_row-missing one.0 (more_values source.CommandLine (one.1 ∷ [])) _ rows e

fresh_after : (one : Use) (rows : List Row) (other : Use) → has_row other.0 rows ≡ false → one.0 ≢ other.0 → has_row other.0 (rows ++ row_of_use one ∷ []) ≡ false
fresh_after one rows other before apart =
    let differ : bytes_eq one.0 other.0 ≡ false = false_from_ne_true _ (λ e. apart ((bytes_eq-Decides one.0 other.0).0 e)) in
    list_any-append (λ (r : Row). bytes_eq r.id other.0) rows (row_of_use one ∷ []) ∙ rw (before, differ) refl

fresh_beside : (uses : List Use) (rows : List Row) → All (λ one. has_row one.0 rows ≡ false) uses → EachOnce uses → Fresh rows uses
fresh_beside [] rows free once = tt
fresh_beside (one ∷ uses) rows free once = (
  All-head (λ (other : Use). has_row other.0 rows ≡ false) one uses free,
  fresh_beside uses (rows ++ row_of_use one ∷ [])
      (λ k d lt. fresh_after one rows (slice_index_or uses k d) (free (suc k) d (omega (arith, lt))) (once 0 (suc k) d (omega arith) (omega (arith, lt))))
      (λ i j d below lt. once (suc i) (suc j) d (omega (arith, below)) (omega (arith, lt))),
)

pub once_fresh : (uses : List Use) → EachOnce uses → Fresh [] uses
once_fresh uses once = fresh_beside uses [] (λ k d lt. refl) once

abbrev pub named : Text → Row → Bool
named id row = bytes_eq row.id id

-- the row of the default of the option of this name
abbrev pub default_found : Text → List Rule → Option Row
default_found id [] = None
default_found id (rule ∷ rules) = option_or (find (named id) (default_rows rule.id (reading_by rule) rule.defaults [])) (default_found id rules)

option_or-none : (o : Option Row) → option_or o None ≡ o
option_or-none None = refl
option_or-none (Some row) = refl

option_or-some : (o p : Option Row) → is_some o ≡ true → option_or o p ≡ o
option_or-some None p e = cc
option_or-some (Some row) p e = refl

option_or-assoc : (o p q : Option Row) → option_or (option_or o p) q ≡ option_or o (option_or p q)
option_or-assoc None p q = refl
option_or-assoc (Some row) p q = refl

has_row-found : (id : Text) (rows : List Row) → has_row id rows ≡ true → is_some (find (named id) rows) ≡ true
has_row-found id [] e = cc
has_row-found id (r ∷ rows) e = go (has_row-found id rows) (bytes_eq r.id id) e
  where
    go : (has_row id rows ≡ true → is_some (find (named id) rows) ≡ true) → (b : Bool) → (b || has_row id rows) ≡ true → is_some (cond b (Some r) (find (named id) rows)) ≡ true
    go rest true e = refl
    go rest false e = rest e

default_rows-apart : (id other : Text) (how : Reading) (texts : List Text) → bytes_eq id other ≡ false → find (named other) (default_rows id how texts []) ≡ None
default_rows-apart id other how [] e = refl
default_rows-apart id other how (text ∷ texts) e = rw e refl

default_rows-missing : (id : Text) (how : Reading) (texts : List Text) (rows : List Row) → has_row id rows ≡ false → default_rows id how texts rows ≡ rows ++ default_rows id how texts []
default_rows-missing id how [] rows e = sym (append-nil rows)
default_rows-missing id how (text ∷ texts) rows e = at_row-missing id (more_values source.DefaultValue (text ∷ texts)) _ rows e

find_default : (id : Text) (rule : Rule) (rows : List Row) → find (named id) (with_default rows rule) ≡ option_or (find (named id) rows) (find (named id) (default_rows rule.id (reading_by rule) rule.defaults []))
find_default id rule rows = go (has_row rule.id rows) refl
  where
    kept : (same : Bool) → bytes_eq rule.id id ≡ same → has_row rule.id rows ≡ true
        → find (named id) rows ≡ option_or (find (named id) rows) (find (named id) (default_rows rule.id (reading_by rule) rule.defaults []))
    kept true same has = sym (option_or-some _ _ (has_row-found id rows (ap (λ (name : Text). has_row name rows) (sym ((bytes_eq-Decides rule.id id).0 same)) ∙ has)))
    kept false same has = sym (ap (option_or (find (named id) rows)) (default_rows-apart rule.id id _ rule.defaults same) ∙ option_or-none _)

    go : (b : Bool) → has_row rule.id rows ≡ b
        → find (named id) (cond b rows (default_rows rule.id (reading_by rule) rule.defaults rows)) ≡ option_or (find (named id) rows) (find (named id) (default_rows rule.id (reading_by rule) rule.defaults []))
    go true has = kept (bytes_eq rule.id id) refl has
    go false has = ap (find (named id)) (default_rows-missing rule.id (reading_by rule) rule.defaults rows has) ∙ find-append (named id) rows _

-- what is found once the defaults are there
pub find_defaults : (id : Text) (rules : List Rule) (rows : List Row) → find (named id) (fold with_default rows rules) ≡ option_or (find (named id) rows) (default_found id rules)
find_defaults id [] rows = sym (option_or-none _)
find_defaults id (rule ∷ rules) rows =
    find_defaults id rules (with_default rows rule)
    ∙ ap (λ (o : Option Row). option_or o (default_found id rules)) (find_default id rule rows)
    ∙ option_or-assoc (find (named id) rows) _ _

abbrev pub read_number : NumberOption → Option Row → Option ℕ
read_number which o = option_and_then (number_text (low_of which) (high_of which)) (option_and_then row_text o)

-- the option is read as its number, if it has this name
abbrev pub IsReadAs : NumberOption → Use → Type 0
IsReadAs which one = bytes_eq one.0 (name_of which) ≡ true → number_text (low_of which) (high_of which) one.1 ≡ Some (digits_value 10 one.1)

given_number : (which : NumberOption) (d : Option Row) (uses : List Use)
    → All (IsReadAs which) uses
    → read_number which (option_or (find (named (name_of which)) (map row_of_use uses)) d) ≡ option_or (given which uses) (read_number which d)
given_number which d [] all = refl
given_number which d (one ∷ uses) all =
    go (bytes_eq one.0 (name_of which)) refl (given_number which d uses (All-tail (IsReadAs which) one uses all))
  where
    go : (b : Bool) → bytes_eq one.0 (name_of which) ≡ b
        → read_number which (option_or (find (named (name_of which)) (map row_of_use uses)) d) ≡ option_or (given which uses) (read_number which d)
        → read_number which (option_or (cond b (Some (row_of_use one)) (find (named (name_of which)) (map row_of_use uses))) d)
        ≡ option_or (option_map (λ one. digits_value 10 one.1) (cond b (Some one) (find (λ one. bytes_eq one.0 (name_of which)) uses))) (read_number which d)
    go true is rest = All-head (IsReadAs which) one uses all is
    go false is rest = rest

-- the number of an option is the one that is given, or else its default
pub number_found : (which : NumberOption) (rules : List Rule) (uses : List Use)
    → All (IsReadAs which) uses
    → number_of which (fold with_default (map row_of_use uses) rules) ≡ option_or (given which uses) (read_number which (default_found (name_of which) rules))
number_found which rules uses all =
    ap (read_number which) (find_defaults (name_of which) rules (map row_of_use uses)) ∙ given_number which (default_found (name_of which) rules) uses all

use_given : (which : NumberOption) (d : Option Row) (uses : List Use) (n : ℕ) → given which uses ≡ Some n
    → option_map_or (λ (row : Row). explicit_source row.source) (option_or (find (named (name_of which)) (map row_of_use uses)) d) false ≡ true
use_given which d [] n e = cc
use_given which d (one ∷ uses) n e = go (use_given which d uses n) (bytes_eq one.0 (name_of which)) e
  where
    go : (given which uses ≡ Some n → option_map_or (λ (row : Row). explicit_source row.source) (option_or (find (named (name_of which)) (map row_of_use uses)) d) false ≡ true)
        → (b : Bool) → option_map (λ (one : Use). digits_value 10 one.1) (cond b (Some one) (find (λ one. bytes_eq one.0 (name_of which)) uses)) ≡ Some n
        → option_map_or (λ (row : Row). explicit_source row.source) (option_or (cond b (Some (row_of_use one)) (find (named (name_of which)) (map row_of_use uses))) d) false ≡ true
    go rest true e = refl
    go rest false e = rest e

-- an option that has a number is given
pub is_given_by : (which : NumberOption) (rules : List Rule) (uses : List Use) (n : ℕ) → given which uses ≡ Some n
    → is_given (name_of which) (fold with_default (map row_of_use uses) rules) ≡ true
is_given_by which rules uses n e =
    ap (λ (o : Option Row). option_map_or (λ (row : Row). explicit_source row.source) o false) (find_defaults (name_of which) rules (map row_of_use uses))
    ∙ use_given which (default_found (name_of which) rules) uses n e
