use Rattle.std.proofs.Common.{◌≡◌, List, length, take}
use Rattle.std.specs.List.{AllZip}
use Rattle.ix_base.specs.Documents.{Document}
use Rattle.query_core.specs.Answers.{ArePositions}
use Rattle.query_core.specs.Phrases.{lists_of}
use Rattle.query_core.proofs.phrase.positions_in.Given as goal

abbrev pub invariant-loop-term : goal.invariant-loop-term
invariant-loop-term g l = record {
  long : length l.lists.items ≡ l.term-index;
  lists : (docs : List Document) → g.I.Inverted.inverts l.index docs → AllZip (λ term places. ArePositions docs term l.row places) (take l.term-index l.terms) (lists_of l.lists.items);
}
