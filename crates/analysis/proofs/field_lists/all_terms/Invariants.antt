use Rattle.analysis.proofs.AllTerms.{AreTaken}
use Rattle.analysis.proofs.field_lists.all_terms.Given as goal

abbrev pub invariant-loop-key : goal.invariant-loop-key
invariant-loop-key l = AreTaken l.fn.fields.entries l.yielded l.key-iterator l.terms.items
