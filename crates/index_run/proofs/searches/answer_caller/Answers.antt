use Rattle.std.proofs.Common.{◌≡◌, ◌∙◌, ℕ, List, [], ◌∷◌, ◌+◌, length, sym, ap, subst, arith}
use Rattle.std.proofs.lemmas.List.{length-append}
use Rattle.index_writer.specs.declared.state.State.{State}
use Rattle.index_run.specs.Answered.{IsTextBy}
use Rattle.index_run.proofs.CallerAnswers.{AnswersSoFar, so_far_next}
use Rattle.index_run.proofs.searches.answer_caller.Goals as goal

pub loop-at-preserved : goal.loop-at-preserved
loop-at-preserved g c =
    let at = c.loop-at in
    let w = c.args.writer.now in
    let asks = c.args.asks.now in
    let old = c.args.texts.now.items in
    let ask = c.index-asks-at.result in
    let text = c.in_ok-text.text in
    record {
      far =
          subst (λ (ts : List (List ℕ)). AnswersSoFar w.state c.args.place asks old ts) (sym c.in_ok-push.ensures.items)
          (so_far_next w.state c.args.place asks old at.texts.items at.at ask text at.invariant.far (sym at.invariant.count)
          c.loop-at-test.true (sym c.index-asks-at.is)
          (c.if-ask-place.false, subst (λ (s : State). IsTextBy s ask text) at.invariant.state c.in_ok-text.ensures.text));
      count =
          let long = ap length c.in_ok-push.ensures.items ∙ length-append at.texts.items (text ∷ []) in
          let before = at.invariant.count in omega (arith, long, before);
      state = c.found_text.ensures.state ∙ at.invariant.state;
      store = c.found_text.ensures.store ∙ at.invariant.store;
    }
