use Rattle.std.proofs.Common.{◌≡◌, List, take}
use Rattle.std.specs.List.{filter}
use Rattle.ix_base.specs.Inversion.{at_row}
use Rattle.ix_base.specs.Documents.{Document}
use Rattle.ix_base.specs.declared.document.Term.{Term}
use Rattle.query_core.specs.Answers.{terms_stand}
use Rattle.query_core.specs.Phrases.{AreWords}
use Rattle.query_core.proofs.phrase.standing.Given as goal

abbrev pub invariant-loop-row : goal.invariant-loop-row
invariant-loop-row g l = (docs : List Document) → g.I.Inverted.inverts l.index docs → (words : List Term) → AreWords l.words.terms.keys l.words.order.items words
    → l.kept.items ≡ filter (λ r. at_row (terms_stand words) docs r) (take l.row-index l.row-items)
