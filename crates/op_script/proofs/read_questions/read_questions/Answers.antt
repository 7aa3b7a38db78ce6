use Rattle.std.proofs.Common.{◌≡◌, [], ◌∷◌, rules}
use Rattle.op_script.specs.Lines.{lines_of}
use Rattle.op_script.proofs.QuestionLines.{all_read}
use Rattle.op_script.proofs.read_questions.read_questions.Goals as goal

pub returns-clause-ok : goal.returns-clause-ok
returns-clause-ok c =
    let last : lines_of c.loop-text.rest.now ≡ c.loop-text.rest.now ∷ [] = search rules in
    all_read c.loop-text.questions.items c.add_question-2.new.questions.items c.loop-text.at c.loop-text.rest.now c.args.bytes.now c.loop-text.invariant.read last c.in_ok-add_question-2.ensures.ok
