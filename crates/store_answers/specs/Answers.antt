-- The texts that answer questions.
use Rattle.std.specs.Prelude.{ℕ, List}
use Rattle.std.specs.List.{flat_map}
use Rattle.ix_base.specs.Hits.{hits}
use Rattle.ix_base.specs.declared.document.Row.{Row}
use Rattle.op_script.specs.declared.questions.Question.{Question}
use Rattle.report_text.specs.Lines.{search_value, text_line}

-- what a search line shows of the commit of this number, which has these rows
abbrev pub answer_text : ℕ → List Row → Question → List ℕ
answer_text commit rows question = text_line (search_value commit (hits question.query rows) question.line)

-- one text after another
abbrev pub answers_text : ℕ → List Row → List Question → List ℕ
answers_text commit rows = flat_map (answer_text commit rows)
