use Rattle.index_run.specs.Replied.{AreTextsOf}
use Rattle.index_run.proofs.outcomes.texts_of.Given as goal

abbrev pub invariant-loop-own : goal.invariant-loop-own
invariant-loop-own l = AreTextsOf l.yielded l.found.items
