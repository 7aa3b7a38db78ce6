-- What holds of every script that was read.
use Rattle.std.proofs.Common.{◌≡◌, ℕ, ◌+◌, ◌<◌, ◌≤◌, List, [], ◌∷◌, length, Bool, true, false, ◌==◌, if◌then◌else◌, codes, Option, Some, None, option_and_then, Result, Ok, Err, nat_lt, refl, sym, subst, arith}
use Rattle.std.specs.List.{AllByRecursion}
use Rattle.std.specs.Option.{option_map_or}
use Rattle.std.proofs.lemmas.Bool.{ltb-true}
use Rattle.std.proofs.lemmas.List.Splits.{length-slice_split}
use Rattle.std.proofs.lemmas.List.Sums.{count_by-le-length}
use Rattle.serde_json.specs.Data.{Data, null, boolean, number, string, array, object}
use Rattle.serde_json.specs.Find.{get, as_number, as_u64}
use Rattle.op_script.specs.Values.{value_of}
use Rattle.op_script.specs.Lines.{lines_of, is_blank}
use Rattle.op_script.specs.Verbs.{has_members}
use Rattle.op_script.specs.Language.{byte_of, caller_of, verb_of, act_of, line_with, line_by, line_of, placed, request_of, line_at, and_then, lines_from, most_bytes}
use Rattle.op_script.specs.Shape.{LinesRise, AreScriptLines}
use Rattle.op_script.specs.declared.script.Act.{Act}
use Rattle.op_script.specs.declared.script.Line.{Line}
use Rattle.op_script.specs.declared.script.BadLine.{BadLine}
use Rattle.op_script.specs.declared.script.Why.{Why}
use Rattle.op_script.specs.declared.script.Why.TheVariants as why
use Rattle.op_script.specs.declared.verbs.Verb.{Verb}

-- ---- lines

record IsLineAt (at : ℕ) (line : Line) : Type 0 where
  at_place : line.line ≡ at
  caller : line.caller < 256

byte_below : (test : Bool) (n c : ℕ) → nat_lt n 256 ≡ test → (if test then Some n else None) ≡ Some c → c < 256
byte_below true n c e is = let same : n ≡ c = cc in subst (λ n. n < 256) same (ltb-true n 256 e)
byte_below false n c e is = cc

caller_below : (o : Option ℕ) (c : ℕ) → option_and_then byte_of o ≡ Some c → c < 256
caller_below None c is = cc
caller_below (Some n) c is = byte_below (nat_lt n 256) n c refl is

line_with_good : (at c : ℕ) (asked : Result Act Why) (line : Line) → c < 256 → line_with at c asked ≡ Ok line → IsLineAt at line
line_with_good at c (Err reason) line below is = cc
line_with_good at c (Ok a) line below is =
    let made : Line = record { line = at; caller = c; act = a } in
    let same : made ≡ line = cc in
    subst (λ line. IsLineAt at line) same (record { at_place = refl; caller = below })

exact_good : (test : Bool) (at c : ℕ) (v : Verb) (d : Data) (line : Line) → c < 256 → (if test then line_with at c (act_of v d) else Err why.Members) ≡ Ok line → IsLineAt at line
exact_good true at c v d line below is = line_with_good at c (act_of v d) line below is
exact_good false at c v d line below is = cc

line_by_good : (at : ℕ) (d : Data) (caller : Option ℕ) (v : Option Verb) (line : Line) → ((c : ℕ) → caller ≡ Some c → c < 256) → line_by at d caller v ≡ Ok line → IsLineAt at line
line_by_good at d None v line below is = cc
line_by_good at d (Some c) None line below is = cc
line_by_good at d (Some c) (Some v) line below is = exact_good (has_members v d) at c v d line (below c refl) is

line_of_good : (at : ℕ) (d : Data) (line : Line) → line_of at d ≡ Ok line → IsLineAt at line
line_of_good at null line is = cc
line_of_good at (boolean b) line is = cc
line_of_good at (number n) line is = cc
line_of_good at (string s) line is = cc
line_of_good at (array ds) line is = cc
line_of_good at (object ms) line is = line_by_good at (object ms) (caller_of (object ms)) (verb_of (object ms)) line (λ c e. caller_below (option_and_then as_u64 (option_and_then as_number (get (codes "c") (object ms)))) c e) is

request_good : (at : ℕ) (value : Option Data) (line : Line) → option_map_or (line_of at) value (Err why.Json) ≡ Ok line → IsLineAt at line
request_good at None line is = cc
request_good at (Some d) line is = line_of_good at d line is

placed_good : (at : ℕ) (asked : Result Line Why) (line : Line) → ((l : Line) → asked ≡ Ok l → IsLineAt at l) → placed at asked ≡ Ok (Some line) → IsLineAt at line
placed_good at (Err reason) line good is = cc
placed_good at (Ok l) line good is = let same : l ≡ line = cc in subst (λ line. IsLineAt at line) same (good l refl)

line_at_good : (test : Bool) (at : ℕ) (text : List ℕ) (line : Line) → (if test then Ok None else placed at (request_of at text)) ≡ Ok (Some line) → IsLineAt at line
line_at_good true at text line is = cc
line_at_good false at text line is = placed_good at (request_of at text) line (λ l e. request_good at (value_of text) l e) is

-- ---- scripts

record AreLinesFrom (at count : ℕ) (lines : List Line) : Type 0 where
  rise : LinesRise at lines
  few : length lines ≤ count
  callers : AllByRecursion (λ (l : Line). l.caller < 256) lines

rise_earlier : (at : ℕ) (lines : List Line) → LinesRise (at + 1) lines → LinesRise at lines
rise_earlier at [] h = h
rise_earlier at (l ∷ ls) h = (omega (arith, h.0), h.1)

joined : (at count : ℕ) (first : Result (Option Line) BadLine) (rest : Result (List Line) BadLine) (lines : List Line)
    → ((line : Line) → first ≡ Ok (Some line) → IsLineAt at line) → ((ls : List Line) → rest ≡ Ok ls → AreLinesFrom (at + 1) count ls)
    → and_then first rest ≡ Ok lines → AreLinesFrom at (count + 1) lines
joined at count (Err bad) rest lines good later is = cc
joined at count (Ok None) (Err bad) lines good later is = cc
joined at count (Ok (Some line)) (Err bad) lines good later is = cc
joined at count (Ok None) (Ok ls) lines good later is =
    let same : ls ≡ lines = cc in
    let those = later ls refl in
    subst (λ lines. AreLinesFrom at (count + 1) lines) same (record { rise = rise_earlier at ls those.rise; few = omega (arith, those.few); callers = those.callers })
joined at count (Ok (Some line)) (Ok ls) lines good later is =
    let same : line ∷ ls ≡ lines = cc in
    let those = later ls refl in
    let this = good line refl in
    let from : ℕ → Type 0 = λ n. LinesRise (n + 1) ls in
    subst (λ lines. AreLinesFrom at (count + 1) lines) same
    (record {
      rise = (omega (arith, this.at_place), subst from (sym this.at_place) those.rise);
      few = omega (arith, those.few);
      callers = (this.caller, those.callers);
    })

lines_from_good : (at : ℕ) (texts : List (List ℕ)) (lines : List Line) → lines_from at texts ≡ Ok lines → AreLinesFrom at (length texts) lines
lines_from_good at [] lines is = let same : [] ≡ lines = cc in subst (λ lines. AreLinesFrom at 0 lines) same (record { rise = tt; few = omega arith; callers = tt })
lines_from_good at (text ∷ texts) lines is =
    let those = joined at (length texts) (line_at at text) (lines_from (at + 1) texts) lines (λ line e. line_at_good (is_blank text) at text line e) (λ ls e. lines_from_good (at + 1) texts ls e) is in
    record { rise = those.rise; few = omega (arith, those.few); callers = those.callers }

-- an input of few bytes has few lines
pub shape_of : (bytes : List ℕ) (lines : List Line) → length bytes ≤ most_bytes → lines_from 1 (lines_of bytes) ≡ Ok lines → AreScriptLines lines
shape_of bytes lines short is =
    let those = lines_from_good 1 (lines_of bytes) lines is in
    record { rise = those.rise; few = omega (arith, those.few, length-slice_split (λ b. b == 10) bytes, count_by-le-length (λ b. b == 10) bytes); callers = those.callers }
