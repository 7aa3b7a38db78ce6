use Rattle.std.proofs.Common.{◌≤◌, ◌<◌, ◌-◌, ℕ, length, get_or}
use Rattle.ix_base.specs.declared.postings.TermPostings.{TermPostings}
use Rattle.merge_postings.specs.Walk.{IsBelow}
use Rattle.merge_postings.proofs.source.start_beyond.Given as goal

abbrev pub invariant-halves : goal.invariant-halves
invariant-halves l = record {
  order : l.low ≤ l.high;
  within : l.high ≤ length l.terms;
  reached : (k : ℕ) (d : TermPostings) → k < l.low → k < length l.terms → IsBelow l.upto (get_or l.terms k d).term → ⊥;
  beyond : (k : ℕ) (d : TermPostings) → l.high ≤ k → k < length l.terms → IsBelow l.upto (get_or l.terms k d).term;
}

abbrev pub decreases-halves : goal.decreases-halves
decreases-halves l = l.high - l.low
