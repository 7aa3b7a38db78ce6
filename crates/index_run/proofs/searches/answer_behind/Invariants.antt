use Rattle.std.proofs.Common.{◌≡◌}
use Rattle.index_run.proofs.CallerAnswers.{AnswersUpTo}
use Rattle.index_run.proofs.searches.answer_behind.Given as goal

abbrev pub invariant-loop-caller : goal.invariant-loop-caller
invariant-loop-caller g l = record {
  up : AnswersUpTo l.fn.writer.state l.place l.caller l.asks l.fn.texts l.texts;
  state : l.writer.state ≡ l.fn.writer.state;
  store : l.writer.store ≡ l.fn.writer.store;
}
