use Rattle.std.proofs.Common.{◌≡◌, ◌++◌, map}
use Rattle.analysis.specs.Kept.{term_of}
use Rattle.analysis.proofs.word_lists.terms_of.Given as goal

abbrev pub invariant-loop-word : goal.invariant-loop-word
invariant-loop-word l = l.terms.items ++ map (λ e. term_of l.field (e.0, e.1)) l.word-iterator ≡ map (λ e. term_of l.field (e.0, e.1)) l.fn.lists.entries
