use Rattle.std.proofs.Common.{◌≡◌, length, refl, sym, subst, arith}
use Rattle.std.specs.List.{AllByRecursion}
use Rattle.index_run.specs.Answered.{IsNone}
use Rattle.index_run.proofs.CallerAnswers.{none_more}
use Rattle.index_run.proofs.searches.no_texts.Goals as goal

pub returns-clause-count : goal.returns-clause-count
returns-clause-count c = omega (arith, c.loop.invariant.count, c.loop.auto.counter-end, c.loop-test.false)
