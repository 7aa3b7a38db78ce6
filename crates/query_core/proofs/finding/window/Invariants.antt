use Rattle.std.proofs.Common.{◌≤◌, ◌-◌, length}
use Rattle.ix_base.specs.Inversion.{IsPostings}
use Rattle.query_core.specs.Finding.{StandsNotBefore}
use Rattle.query_core.proofs.finding.window.Given as goal

abbrev pub invariant-loop-at : goal.invariant-loop-at
invariant-loop-at l = record {
  start : l.start ≤ l.low;
  low : l.low ≤ l.at;
  within : l.low ≤ length l.entries;
  stands : IsPostings l.entries → StandsNotBefore l.entries l.term l.low;
}

abbrev pub decreases-loop-at : goal.decreases-loop-at
decreases-loop-at l = length l.entries - l.at
