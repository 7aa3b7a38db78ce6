use Rattle.std.proofs.Common.{ℕ}
use Rattle.merge_core_tests.specs.Reading.{Reads}
use Rattle.merge_core_tests.proofs.reading.terms_before_the_end.Given as goal

abbrev pub invariant-loop-turn : goal.invariant-loop-turn
invariant-loop-turn l = (count : ℕ) × Reads l.merge l.segments count
