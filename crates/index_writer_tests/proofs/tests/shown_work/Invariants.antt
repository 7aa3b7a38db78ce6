use Rattle.std.proofs.Common.{ℕ}
use Rattle.index_writer_tests.specs.Trials.{IsUnderWay}
use Rattle.index_writer_tests.proofs.tests.shown_work.Given as goal

abbrev pub invariant-loop-line : goal.invariant-loop-line
invariant-loop-line l = (base : ℕ) × IsUnderWay base l.parts

abbrev pub invariant-loop-pieces : goal.invariant-loop-pieces
invariant-loop-pieces l = Unit {0}
