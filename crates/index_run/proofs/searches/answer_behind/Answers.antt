use Rattle.std.proofs.Common.{◌≡◌, ◌∙◌, ℕ, suc, ◌+◌, List, length, sym, subst, arith}
use Rattle.std.specs.Prelude.{slice_set}
use Rattle.std.specs.Global.{Vec}
use Rattle.index_writer.specs.declared.state.State.{State}
use Rattle.line_shares.specs.declared.asks.Ask.{Ask}
use Rattle.index_run.specs.Answered.{AnswersBehind}
use Rattle.index_run.proofs.CallerAnswers.{AnswersUpTo, up_to_all, up_to_next}
use Rattle.index_run.proofs.searches.answer_behind.Goals as goal

pub loop-caller-preserved : goal.loop-caller-preserved
loop-caller-preserved g c =
    let at = c.loop-caller in
    let w = c.args.writer.now in
    let asks = c.args.asks.now in
    let olds = c.args.texts.now in
    let own = c.index-asks-caller.result in
    let texts = c.index-texts-caller.result in
    let new = c.answer_caller.new.texts in
    let next : suc at.caller ≡ at.caller + 1 = omega arith in
    record {
      up =
          subst (λ (n : ℕ). AnswersUpTo w.state c.args.place n asks olds (slice_set at.texts at.caller new)) next
          (up_to_next w.state c.args.place at.caller asks olds at.texts own texts new at.invariant.up c.loop-caller-test.true
          (sym c.index-asks-caller.is) (sym c.index-texts-caller.is)
          (subst (λ (s : State). AnswersBehind s c.args.place own.items texts.items new.items) at.invariant.state
          (subst (λ (these : List Ask). AnswersBehind at.writer.state c.args.place these texts.items new.items) c.as_slice.ensures.value
          (subst (λ (t : Vec (List ℕ)). AnswersBehind at.writer.state c.args.place c.as_slice.result.now t.items new.items)
          (sym c.index-texts-caller.is) c.in_ok-answer_caller.ensures.answers))));
      state = c.answer_caller.ensures.state ∙ at.invariant.state;
      store = c.answer_caller.ensures.store ∙ at.invariant.store;
    }

pub returns-clause-answers : goal.returns-clause-answers
returns-clause-answers g c =
    let at = c.loop-caller in
    let all : at.caller ≡ length c.args.asks.now =
    (let most = at.auto.caller-end in let done = c.loop-caller-test.false in omega (arith, most, done)) in
    up_to_all c.args.writer.now.state c.args.place at.caller c.args.asks.now c.args.texts.now at.texts at.invariant.up all
