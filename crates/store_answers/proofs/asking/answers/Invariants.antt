use Rattle.std.proofs.Common.{◌≡◌, List, take}
use Rattle.ix_base.specs.declared.document.Row.{Row}
use Rattle.searcher.specs.Searching.{Searches}
use Rattle.store_answers.specs.Answers.{answers_text}
use Rattle.store_answers.proofs.asking.answers.Given as goal

abbrev pub invariant-loop-question : goal.invariant-loop-question
invariant-loop-question l = record {
  same : l.searcher ≡ l.fn.searcher;
  text : (rows : List Row) → Searches l.fn.searcher.segments rows → l.text.items ≡ answers_text l.commit rows (take l.question-index l.questions);
}
