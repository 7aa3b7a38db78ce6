use Rattle.std.proofs.Common.{◌≡◌, ◌∙◌, ◌+◌, ◌≤◌, ℕ, suc, ap, arith, drop, length, subst}
use Rattle.line_shares.specs.Committed.{WasTold, commit_in, commit_task}
use Rattle.worker_tasks.specs.declared.task.Reply.TheVariants.{Numbered}
use Rattle.worker_tasks.specs.Replies.{told_in}
use Rattle.line_shares.proofs.CommittedLaws.{passed}
use Rattle.line_shares.proofs.ToldLaws.{if_some, told_found}
use Rattle.line_shares.proofs.round_commit.commit_past.Goals as goal

pub loop-at-preserved : goal.loop-at-preserved
loop-at-preserved c =
    let s = c.args.number in
    let at = c.loop-at.at in
    let tasks = c.tasks-tasks.result.now in
    let replies = c.replies-replies.result.now in
    let few : length replies ≤ length tasks =
    omega (arith, ap length c.tasks-tasks.ensures, ap length c.replies-replies.ensures, c.requires.few) in
    let step : suc at ≡ at + 1 = omega arith in
    record {
      same =
          subst
          (λ (n : ℕ). commit_in s (told_in (drop n tasks) (drop n replies))
          ≡ commit_in s (told_in (drop at tasks) (drop at replies))) step
          (passed s at tasks replies (Numbered 0) c.loop-at-test.true few
          (λ same. let told = c.is_number.ensures.1 same in let other = c.if-is_number.false in cc))
          ∙ c.loop-at.invariant.same;
      behind = omega (arith, c.loop-at.invariant.behind);
    }

pub returns-then-is_number-clause-told : goal.returns-then-is_number-clause-told
returns-then-is_number-clause-told c =
    let tasks = c.tasks-tasks.result.now in
    let replies = c.replies-replies.result.now in
    let share = c.args.share.now in
    let few : length replies ≤ length tasks =
    omega (arith, ap length c.tasks-tasks.ensures, ap length c.replies-replies.ensures, c.requires.few) in
    if_some c.commit_by.result (λ found. c.index-tasks-at.result ≡ commit_task found.0 found.1.now)
    (λ found. WasTold (commit_task found.0 found.1.now) (Numbered c.args.number) (drop c.args.count share.tasks)
    (drop c.args.count share.replies))
    (λ found is.
    told_found (commit_task found.0 found.1.now) c.index-tasks-at.result (Numbered c.args.number) (Numbered 0) c.loop-at.at
    c.args.count tasks share.tasks replies share.replies c.tasks-tasks.ensures c.replies-replies.ensures
    c.loop-at.invariant.behind c.loop-at-test.true few c.index-tasks-at.is (c.is_number.ensures.0 c.if-is_number.true) is)
    c.commit_by.ensures.task
