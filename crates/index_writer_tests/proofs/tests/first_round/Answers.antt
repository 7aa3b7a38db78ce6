use Rattle.std.proofs.Common.{ℕ, Result, Ok, Err}
use Rattle.std.specs.Prelude.{IfOk}
use Rattle.index_writer.specs.declared.round.RoundParts.{RoundParts}
use Rattle.index_writer_tests.specs.Trials.{IsUnderWay}
use Rattle.index_writer_tests.proofs.tests.first_round.Goals as goal

some_base : {E : Type 0} (r : Result RoundParts E) (base : ℕ) → IfOk r (IsUnderWay base) → IfOk r (λ parts. (b : ℕ) × IsUnderWay b parts)
some_base (Ok parts) base is = (base, is)
some_base (Err e) base is = tt

pub returns : goal.returns
returns c = some_base _ _ c.begun.ensures.parts
