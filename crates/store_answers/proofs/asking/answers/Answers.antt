use Rattle.std.proofs.Common.{◌≡◌, ◌∙◌, ℕ, ◌+◌, List, ◌++◌, [], ◌∷◌, take, ap, sym, subst}
use Rattle.std.specs.List.{flat_map}
use Rattle.std.proofs.lemmas.List.{flat_map_more, take_more}
use Rattle.op_script.specs.declared.questions.Question.{Question}
use Rattle.searcher.specs.Searching.{Searches}
use Rattle.searcher.specs.declared.searcher.Searcher.{Searcher}
use Rattle.store_answers.specs.Answers.{answer_text}
use Rattle.store_answers.proofs.asking.answers.Goals as goal

pub loop-question-preserved : goal.loop-question-preserved
loop-question-preserved c = record {
  same = c.answer.ensures.same ∙ c.loop-question.invariant.same;
  text = λ rows searches.
      let questions = c.args.questions.now in
      let i = c.loop-question.question-index in
      let question = c.question-item.result in
      let text : Question → List ℕ = answer_text c.args.commit rows in
      let more : take (i + 1) questions ≡ take i questions ++ question ∷ [] =
      take_more questions i question c.loop-question-test.true ∙ ap (λ (q : Question). take i questions ++ q ∷ []) (sym c.question-item.is) in
      c.in_ok-extend_from_slice.ensures.items
      ∙ ap (λ (bs : List ℕ). bs ++ c.as_slice.result.now) (c.loop-question.invariant.text rows searches)
      ∙ ap (λ (bs : List ℕ). flat_map text (take i questions) ++ bs) (c.as_slice.ensures.value ∙ c.in_ok-one.ensures.text rows (subst (λ (s : Searcher). Searches s.segments rows) (sym c.loop-question.invariant.same) searches))
      ∙ flat_map_more text [] (take i questions) question
      ∙ sym (ap (flat_map text) more);
}
