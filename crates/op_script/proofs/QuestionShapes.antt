-- What holds of questions that were read.
use Rattle.std.proofs.Common.{◌≡◌, ℕ, ◌+◌, ◌≤◌, List, [], ◌∷◌, length, Bool, true, false, ◌==◌, if◌then◌else◌, Result, Ok, Err, refl, sym, subst, arith}
use Rattle.std.proofs.lemmas.List.Splits.{length-slice_split}
use Rattle.std.proofs.lemmas.List.Sums.{count_by-le-length}
use Rattle.ix_base.specs.declared.query.Query.{Query}
use Rattle.op_script.specs.Lines.{lines_of, is_blank}
use Rattle.op_script.specs.Language.{most_bytes}
use Rattle.op_script.specs.Questions.{query_in, placed, question_at, before, questions_from, QuestionsRise, AreQuestions}
use Rattle.op_script.specs.declared.questions.Question.{Question}
use Rattle.op_script.specs.declared.script.BadLine.{BadLine}
use Rattle.op_script.specs.declared.script.Why.{Why}

placed_at : (at : ℕ) (asked : Result Query Why) (q : Question) → placed at asked ≡ Ok q → q.line ≡ at
placed_at at (Err reason) q is = cc
placed_at at (Ok query) q is =
    let made : Question = record { line = at; query = query } in
    let same : made ≡ q = cc in
    subst (λ q. q.line ≡ at) same refl

record AreFrom (at count : ℕ) (qs : List Question) : Type 0 where
  rise : QuestionsRise at qs
  few : length qs ≤ count

rise_earlier : (at : ℕ) (qs : List Question) → QuestionsRise (at + 1) qs → QuestionsRise at qs
rise_earlier at [] h = h
rise_earlier at (q ∷ qs) h = (omega (arith, h.0), h.1)

passed_over : (at count : ℕ) (qs : List Question) → AreFrom (at + 1) count qs → AreFrom at (count + 1) qs
passed_over at count qs those = record { rise = rise_earlier at qs those.rise; few = omega (arith, those.few) }

joined : (at count : ℕ) (first : Result Question BadLine) (rest : Result (List Question) BadLine) (all : List Question)
    → ((q : Question) → first ≡ Ok q → q.line ≡ at) → ((qs : List Question) → rest ≡ Ok qs → AreFrom (at + 1) count qs)
    → before first rest ≡ Ok all → AreFrom at (count + 1) all
joined at count (Err bad) rest all here later is = cc
joined at count (Ok q) (Err bad) all here later is = cc
joined at count (Ok q) (Ok qs) all here later is =
    let same : q ∷ qs ≡ all = cc in
    let those = later qs refl in
    let place : q.line ≡ at = here q refl in
    subst (λ all. AreFrom at (count + 1) all) same
    (record {
      rise = (omega (arith, place), subst (λ n. QuestionsRise (n + 1) qs) (sym place) those.rise);
      few = omega (arith, those.few);
    })

unless_blank : (blank : Bool) (at count : ℕ) (first : Result Question BadLine) (rest : Result (List Question) BadLine) (all : List Question)
    → ((q : Question) → first ≡ Ok q → q.line ≡ at) → ((qs : List Question) → rest ≡ Ok qs → AreFrom (at + 1) count qs)
    → (if blank then rest else before first rest) ≡ Ok all → AreFrom at (count + 1) all
unless_blank true at count first rest all here later is = passed_over at count all (later all is)
unless_blank false at count first rest all here later is = joined at count first rest all here later is

from_good : (at : ℕ) (texts : List (List ℕ)) (qs : List Question) → questions_from at texts ≡ Ok qs → AreFrom at (length texts) qs
from_good at [] qs is = let same : [] ≡ qs = cc in subst (λ qs. AreFrom at 0 qs) same (record { rise = tt; few = omega arith })
from_good at (text ∷ texts) qs is =
    let those = unless_blank (is_blank text) at (length texts) (question_at at text) (questions_from (at + 1) texts) qs
    (λ q e. placed_at at (query_in text) q e) (λ later e. from_good (at + 1) texts later e) is in
    record { rise = those.rise; few = omega (arith, those.few) }

-- an input of few bytes has few lines
pub shape_of : (bytes : List ℕ) (qs : List Question) → length bytes ≤ most_bytes → questions_from 1 (lines_of bytes) ≡ Ok qs → AreQuestions qs
shape_of bytes qs short is =
    let those = from_good 1 (lines_of bytes) qs is in
    record { rise = those.rise; few = omega (arith, those.few, length-slice_split (λ b. b == 10) bytes, count_by-le-length (λ b. b == 10) bytes) }
