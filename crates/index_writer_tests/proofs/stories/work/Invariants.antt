use Rattle.std.proofs.Common.{ℕ}
use Rattle.index_writer_tests.specs.Trials.{IsUnderWay}
use Rattle.index_writer_tests.proofs.stories.work.Given as goal

abbrev pub invariant-loop-line : goal.invariant-loop-line
invariant-loop-line l = (base : ℕ) → IsUnderWay base l.fn.parts → IsUnderWay base l.parts
