use Rattle.std.proofs.Common.{List}
use Rattle.merge_postings.specs.Renumbering.{Moving}
use Rattle.merge_postings.specs.Steps.{IsFront, Walked}
use Rattle.merge_postings.specs.Tree.{IsFirst}
use Rattle.merge_postings.specs.Walk.{entry_count}
use Rattle.merge_postings.proofs.merged.walk_on.Given as goal

abbrev pub invariant-terms : goal.invariant-terms
invariant-terms l = record {
  first : IsFirst l.queue l.head;
  walked : (sources : List Moving) → Walked sources l.fn.queue.waiting l.fn.terms.items → Walked sources l.queue.waiting l.terms.items;
  front : IsFront l.fn.terms.items l.terms.items;
}

abbrev pub decreases-terms : goal.decreases-terms
decreases-terms l = entry_count l.queue.waiting
