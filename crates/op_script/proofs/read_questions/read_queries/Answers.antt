use Rattle.std.proofs.Common.{◌≡◌, ◌∙◌, Ok, Err, sym, ap, rules}
use Rattle.op_script.specs.Lines.{lines_of}
use Rattle.op_script.specs.Questions.{questions_from}
use Rattle.op_script.proofs.QuestionLines.{questions_long, questions_short}
use Rattle.op_script.proofs.QuestionShapes.{shape_of}
use Rattle.op_script.proofs.read_questions.read_queries.Goals as goal

pub returns-then-bytes-gt-MOST_BYTES-clause-bad : goal.returns-then-bytes-gt-MOST_BYTES-clause-bad
returns-then-bytes-gt-MOST_BYTES-clause-bad c = λ bad is. questions_long c.args.bytes.now c.if-bytes-gt-MOST_BYTES.true ∙ ap Err (cc)

pub returns-then-bytes-gt-MOST_BYTES-clause-long : goal.returns-then-bytes-gt-MOST_BYTES-clause-long
returns-then-bytes-gt-MOST_BYTES-clause-long c = questions_long

pub returns-in_err-questions-clause-bad : goal.returns-in_err-questions-clause-bad
returns-in_err-questions-clause-bad c = λ bad is.
    let read : questions_from 1 (lines_of c.args.bytes.now) ≡ Err bad = c.in_err-questions.ensures.bad bad (search rules) in
    questions_short c.args.bytes.now c.if-bytes-gt-MOST_BYTES.false ∙ read

pub returns-in_err-questions-clause-long : goal.returns-in_err-questions-clause-long
returns-in_err-questions-clause-long c = questions_long

pub returns-clause-lines : goal.returns-clause-lines
returns-clause-lines c = questions_short c.args.bytes.now c.if-bytes-gt-MOST_BYTES.false ∙ c.in_ok-questions.ensures.ok ∙ ap Ok (sym c.from_vec.ensures)

pub returns-clause-shape : goal.returns-clause-shape
returns-clause-shape c = shape_of c.args.bytes.now c.from_vec.result c.if-bytes-gt-MOST_BYTES.false (c.in_ok-questions.ensures.ok ∙ ap Ok (sym c.from_vec.ensures))

pub returns-clause-long : goal.returns-clause-long
returns-clause-long c = questions_long
