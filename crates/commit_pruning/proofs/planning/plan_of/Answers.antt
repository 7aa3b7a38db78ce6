use Rattle.std.proofs.Common.{List, ℕ, subst, sym}
use Rattle.commit_pruning.specs.Choosing.{AreNumbers}
use Rattle.commit_pruning.proofs.Planned.{numbers_are}
use Rattle.commit_pruning.proofs.planning.plan_of.Goals as goal

pub returns-clause-plan : goal.returns-clause-plan
returns-clause-plan g c = λ files told lists.
    c.plan_for.ensures.plan files told lists
    (subst (AreNumbers files) (sym c.as_slice.ensures)
    (numbers_are files c.args.names.now c.in_ok-numbers.numbers lists c.in_ok-numbers.ensures.commits))

pub returns-clause-staying : goal.returns-clause-staying
returns-clause-staying g c = λ files damaged told lists is.
    c.plan_for.ensures.staying files damaged told
    (subst (AreNumbers files) (sym c.as_slice.ensures)
    (numbers_are files c.args.names.now c.in_ok-numbers.numbers lists c.in_ok-numbers.ensures.commits)) is
