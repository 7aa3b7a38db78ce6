use Rattle.std.proofs.Common.{◌≡◌, subst, List}
use Rattle.op_script.specs.declared.questions.Question.{Question}
use Rattle.store_answers.specs.Answers.{answers_text}
use Rattle.index_run.proofs.Listed.{outside_asked}
use Rattle.index_run.proofs.answering.answer.Goals as goal

pub returns-in-Ok-clause-text : goal.returns-in-Ok-clause-text
returns-in-Ok-clause-text g c = λ files s next rows told is holds.
    subst (λ (qs : List Question). c.in-Ok.answered.text.items ≡ answers_text s rows qs) c.as_slice.ensures
    (c.in-Ok.ensures.text files s next rows told is holds)

pub returns-clause-whole : goal.returns-clause-whole
returns-clause-whole g c = λ files s next rows told is holds.
    outside_asked c.in-Err.fault c.stop_to_ask.result c.stop_to_ask.ensures (c.in-Err.ensures.whole files s next rows told is holds)
