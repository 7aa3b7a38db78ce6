use Rattle.std.proofs.Common.{◌≡◌, ◌∙◌, ◌<◌, length, refl, sym, subst, arith}
use Rattle.commit_point.specs.Holds.{Pairs}
use Rattle.worker_tasks.specs.declared.task.Reply.TheVariants.{Numbered}
use Rattle.line_shares.specs.Committed.{IsToldPast, commit_task}
use Rattle.line_shares.proofs.ToldLaws.{among_here, told_past_here}
use Rattle.line_shares.proofs.round_commit.committed.Goals as goal

pub returns-in-Some-clause-told : goal.returns-in-Some-clause-told
returns-in-Some-clause-told c = λ pairs among.
    let counts = c.args.counts.now in
    let shares = c.args.shares.now in
    let share = c.index-shares-at.result in
    let here = c.in-Some.pairs.now in
    let at = c.loop-at.at in
    let within : at < length counts = omega (arith, c.requires.count, c.loop-at-test.true) in
    let same : here ≡ pairs =
    among_here c.args.number at _ counts share share shares here pairs within c.loop-at-test.true refl
    (sym c.index-shares-at.is) c.in-Some.ensures.pairs (c.loop-at.invariant ∙ among) in
    subst
    (λ (ps : Pairs). IsToldPast (commit_task c.in-Some.line ps) (Numbered c.args.number) counts shares) same
    (told_past_here (commit_task c.in-Some.line here) (Numbered c.args.number) at _ counts share share shares within
    c.loop-at-test.true refl (sym c.index-shares-at.is) c.in-Some.ensures.told)
