use Rattle.std.proofs.Common.{◌≡◌, length}
use Rattle.index_run.proofs.CallerAnswers.{AnswersSoFar}
use Rattle.index_run.proofs.searches.answer_caller.Given as goal

abbrev pub invariant-loop-at : goal.invariant-loop-at
invariant-loop-at g l = record {
  far : AnswersSoFar l.fn.writer.state l.place l.asks l.fn.texts.items l.texts.items;
  count : length l.texts.items ≡ l.at;
  state : l.writer.state ≡ l.fn.writer.state;
  store : l.writer.store ≡ l.fn.writer.store;
}
