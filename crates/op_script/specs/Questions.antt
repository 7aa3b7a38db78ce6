-- Which questions the bytes of an input are, or the first bad line.
use Rattle.std.specs.Prelude.{ℕ, ◌+◌, ◌<◌, ◌≤◌, ◌^◌, List, [], ◌∷◌, ◌++◌, length, ⊤, nat_lt, if◌then◌else◌, ok_or, Result, Ok, Err}
use Rattle.ix_base.specs.declared.query.Query.{Query}
use Rattle.op_script.specs.Values.{value_of}
use Rattle.op_script.specs.Lines.{lines_of, is_blank}
use Rattle.op_script.specs.Queries.{query_of}
use Rattle.op_script.specs.Arguments.{given}
use Rattle.op_script.specs.Language.{most_bytes}
use Rattle.op_script.specs.declared.questions.Question.{Question}
use Rattle.op_script.specs.declared.script.BadLine.{BadLine}
use Rattle.op_script.specs.declared.script.Why.{Why}
use Rattle.op_script.specs.declared.script.Why.TheVariants as why

-- the query that the text is: it has to be a JSON value, and this a query
abbrev pub query_in : List ℕ → Result Query Why
query_in text = given why.Json (value_of text) (λ d. ok_or (query_of d) why.Query)

abbrev pub placed : ℕ → Result Query Why → Result Question BadLine
placed at (Err reason) = Err (record { line = at; why = reason })
placed at (Ok query) = Ok (record { line = at; query = query })

-- the question on the line of this number
abbrev pub question_at : ℕ → List ℕ → Result Question BadLine
question_at at text = placed at (query_in text)

-- a question before others, of which the first bad line counts
abbrev pub before : Result Question BadLine → Result (List Question) BadLine → Result (List Question) BadLine
before (Err bad) rest = Err bad
before (Ok question) (Err bad) = Err bad
before (Ok question) (Ok questions) = Ok (question ∷ questions)

-- a line before what the lines after it give; a blank one is passed over
abbrev pub and_then : ℕ → List ℕ → Result (List Question) BadLine → Result (List Question) BadLine
and_then at text rest = if is_blank text then rest else before (question_at at text) rest

-- the questions of lines that are numbered from this number on
abbrev pub questions_from : ℕ → List (List ℕ) → Result (List Question) BadLine
questions_from at [] = Ok []
questions_from at (text ∷ texts) = and_then at text (questions_from (at + 1) texts)

-- these questions, and then those
abbrev pub onto : List Question → Result (List Question) BadLine → Result (List Question) BadLine
onto questions (Err bad) = Err bad
onto questions (Ok more) = Ok (questions ++ more)

unfoldable pub questions : List ℕ → Result (List Question) BadLine
questions bytes = if nat_lt most_bytes (length bytes) then Err (record { line = 0; why = why.Long }) else questions_from 1 (lines_of bytes)

-- the questions' places rise, from this one on
abbrev pub QuestionsRise : ℕ → List Question → Type 0
QuestionsRise low [] = ⊤
QuestionsRise low (q ∷ qs) = (low ≤ q.line) × QuestionsRise (q.line + 1) qs

-- questions that were read: their lines rise and are few
pub record AreQuestions (questions : List Question) : Type 0 where
  pub rise : QuestionsRise 1 questions
  pub few : length questions < 2 ^ 27
