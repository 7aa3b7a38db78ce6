use Rattle.std.proofs.Common.{map}
use Rattle.std.specs.Map.Iter.{deref_pair}
use Rattle.ram_postings.proofs.FrozenTerms.{AreTaken}
use Rattle.ram_postings.proofs.freezing.unsorted_terms.Given as goal

abbrev pub invariant-loop-key : goal.invariant-loop-key
invariant-loop-key l = AreTaken l.fn.lists.entries l.numbers (map deref_pair l.yielded) l.key-iterator l.terms.items
