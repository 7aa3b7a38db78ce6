use Rattle.std.proofs.Common.{◌≡◌, ◌∙◌, ℕ, List, [], length, rules, Option, sym, ap, subst, arith}
use Rattle.ix_outside.specs.Disk.{Disk}
use Rattle.index_writer.specs.declared.state.State.{State}
use Rattle.line_shares.specs.Committed.{no_commit}
use Rattle.line_shares.specs.declared.round_commit.CommitLine.{CommitLine}
use Rattle.index_run.specs.Driving.{IsCut, IsUnderWay}
use Rattle.index_run.specs.Rounds.{doing_lines, given}
use Rattle.index_run.proofs.CallerAnswers.{behind_count}
use Rattle.index_run.proofs.Coming.{under_way, way_on}
use Rattle.index_run.proofs.RoundCount.{few_last, few_open, over_last}
use Rattle.index_run.proofs.Rounding.{cut_done, halted_cut, on_fault, on_ok, run_behind, some_behind, stopped_same}
use Rattle.index_run.proofs.lines.do_rounds.Goals as goal

pub returns-in-Err-clause-cut : goal.returns-in-Err-clause-cut
returns-in-Err-clause-cut g c = λ r lines size begins.
    stopped_same g.S.Store.disk r lines _ _ _ _ c.stopped.ensures (ap (λ s. g.S.Store.disk s) c.first_texts.ensures.store)
    (cut_done r lines c.args.shares.items [] c.args.writer.state _ begins.1.done)

pub loop-alloc-init : goal.loop-alloc-init
loop-alloc-init g c =
    let w = c.args.writer in
    let v = c.first_texts.new.writer in
    let shares = c.args.shares.items in
    let asks = c.args.asks.now in
    let texts = c.in-Ok.texts.items in
    let said = c.in-Ok.ensures.answers in
    record {
      come = λ r lines size begins.
          subst (λ (cs : List (ℕ × ℕ)). IsUnderWay r lines shares asks cs c.none-due.result texts v.state (g.S.Store.disk v.store)) (sym c.new-commits.ensures.items)
          (subst (λ (d : CommitLine). IsUnderWay r lines shares asks [] d texts v.state (g.S.Store.disk v.store)) (sym c.none-due.ensures)
          (subst (λ (x : State). IsUnderWay r lines shares asks [] no_commit texts x (g.S.Store.disk v.store)) (sym c.first_texts.ensures.state)
          (subst (λ (d : Option Disk). IsUnderWay r lines shares asks [] no_commit texts w.state d) (sym (ap (λ s. g.S.Store.disk s) c.first_texts.ensures.store))
          (under_way r lines shares asks w.state (g.S.Store.disk w.store) said.0 texts begins said.1 said.2))));
      count = behind_count w.state 0 asks said.0 texts said.2;
      out = ap (λ (s : State). s.out) c.first_texts.ensures.state ∙ c.requires.out;
      few = omega arith;
      later = let same = ap (λ s. g.S.Store.fault_count s) c.first_texts.ensures.store in omega (arith, same);
    }

pub do_round-round-requires-clause-come : goal.do_round-round-requires-clause-come
do_round-round-requires-clause-come g c κs within =
    let at = c.loop-alloc in
    let q = c.requires.begins in
    let way = at.invariant.come q.0 q.1 q.2 q.3 in
    (q.0, q.1, way.log, at.commits.items, run_behind c.args.threads c.args.keep _ q.0 c.kept_behind-kept.ensures.same q.2, way.come)

pub do_round-round-requires-clause-some : goal.do_round-round-requires-clause-some
do_round-round-requires-clause-some g c κs within = some_behind c.args.keep _ c.kept_behind-kept.ensures.same c.requires.some

pub returns-in-Err-came-clause-cut : goal.returns-in-Err-came-clause-cut
returns-in-Err-came-clause-cut g c = λ r lines size begins.
    let at = c.loop-alloc in
    let way = at.invariant.come r lines size begins in
    halted_cut g.S.Store.disk r lines _ _ _ c.halted.ensures
    (on_fault _ _ _ c.in-Err-came.is (c.do_round-round.ensures.cut r lines way.log at.commits.items
    (run_behind c.args.threads c.args.keep _ r c.kept_behind-kept.ensures.same size) way.come))

pub loop-alloc-preserved : goal.loop-alloc-preserved
loop-alloc-preserved g c =
    let at = c.loop-alloc in
    let asks = c.args.asks.now in
    let left = c.in-Ok-came.left in
    let w = c.do_round-round.result.writer in
    let v = c.settle.new.writer in
    let texts = c.settle.new.texts.items in
    let commits = c.settle.new.commits.items in
    record {
      come = λ r lines size begins.
          let way = at.invariant.come r lines size begins in
          let on =
          on_ok _ _ _ c.in-Ok-came.is (c.do_round-round.ensures.come r lines way.log at.commits.items
          (run_behind c.args.threads c.args.keep _ r c.kept_behind-kept.ensures.same size) way.come) in
          rw c.in-Ok-came.is
          (subst (λ (x : State). IsUnderWay r lines left.shares.items asks commits left.due texts x (g.S.Store.disk v.store)) (sym c.settle.ensures.state)
          (subst (λ (d : Option Disk). IsUnderWay r lines left.shares.items asks commits left.due texts w.state d) (sym (ap (λ s. g.S.Store.disk s) c.settle.ensures.store))
          (subst (λ (cs : List (ℕ × ℕ)). IsUnderWay r lines left.shares.items asks cs left.due texts w.state (g.S.Store.disk w.store)) (sym (rw c.in-Ok-came.is at c.in-Ok-settle.ensures.noted))
          (way_on r lines left.shares.items asks way.log (given at.commits.items left.commit) left.due at.texts.items texts
          w.state (g.S.Store.disk w.store) begins.0 way.answered on c.in-Ok-settle.ensures.none
          (rw c.in-Ok-came.is at c.in-Ok-settle.ensures.answers)))));
      count = c.settle.ensures.count;
      out = ap (λ (s : State). s.out) c.settle.ensures.state ∙ on_ok _ _ _ c.in-Ok-came.is c.do_round-round.ensures.out;
      few = search rules;
      later = search rules;
    }

pub returns-in-Err-settle-clause-cut : goal.returns-in-Err-settle-clause-cut
returns-in-Err-settle-clause-cut g c = λ r lines size begins.
    let at = c.loop-alloc in
    let way = at.invariant.come r lines size begins in
    let on =
    on_ok _ _ _ c.in-Ok-came.is (c.do_round-round.ensures.come r lines way.log at.commits.items
    (run_behind c.args.threads c.args.keep _ r c.kept_behind-kept.ensures.same size) way.come) in
    stopped_same g.S.Store.disk r lines _ _ _ _ c.stopped-in-Err-settle.ensures
    (ap (λ s. g.S.Store.disk s) c.settle.ensures.store) (cut_done r lines _ _ _ _ on.come.done)

pub returns-clause-over : goal.returns-clause-over
returns-clause-over g c = λ r lines size begins.
    let at = c.loop-alloc in
    let way = at.invariant.come r lines size begins in
    over_last r lines c.args.asks.now way.log at.due _ _ c.write_last.result.came
    (record { shares = at.shares; commits = at.commits; texts = at.texts; count = at.count }) c.write_last.ensures.same
    way.answered (c.write_last.ensures.come r lines way.log way.come)

pub returns-clause-few : goal.returns-clause-few
returns-clause-few g c = λ lines are.
    let few = few_open c.args.threads lines c.args.shares.items are in
    let at = c.loop-alloc in
    few_last c.write_last.result.came (record { shares = at.shares; commits = at.commits; texts = at.texts; count = at.count })
    (length (doing_lines lines)) c.write_last.ensures.same (omega (arith, few, at.invariant.few))

pub returns-clause-cut : goal.returns-clause-cut
returns-clause-cut g c = λ r lines size begins.
    let way = c.loop-alloc.invariant.come r lines size begins in c.write_last.ensures.cut r lines way.log way.come
