use Rattle.std.proofs.Common.{ℕ}
use Rattle.index_writer_tests.specs.Trials.{IsUnderWay}
use Rattle.index_writer_tests.proofs.tests.fill.Given as goal

abbrev pub invariant-loop-number : goal.invariant-loop-number
invariant-loop-number l = (base : ℕ) → IsUnderWay base l.fn.parts → IsUnderWay base l.parts
