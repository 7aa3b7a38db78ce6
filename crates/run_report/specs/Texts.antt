-- The texts of lines of which it is known what became of them.
use Rattle.std.specs.Prelude.{ℕ, List}
use Rattle.std.specs.List.{flat_map}
use Rattle.report_text.specs.Lines.{text_line, write_value, commit_value, refused_value}
use Rattle.run_report.specs.declared.outcome.Outcome.{Outcome}
use Rattle.run_report.specs.declared.outcome.Answer.{Answer}
use Rattle.run_report.specs.declared.outcome.Answer.TheVariants.{Numbered, Committed, Refused, Found}

-- the text of a line, by what became of it
abbrev pub answer_text : ℕ → Answer → List ℕ
answer_text line (Numbered s) = text_line (write_value line s)
answer_text line (Committed s docs) = text_line (commit_value docs line s)
answer_text line (Refused refusal) = text_line (refused_value line refusal)
answer_text line (Found text) = text

abbrev pub outcome_text : Outcome → List ℕ
outcome_text o = answer_text o.line o.answer

-- the texts of the lines, one behind the other
abbrev pub texts : List Outcome → List ℕ
texts outcomes = flat_map outcome_text outcomes
