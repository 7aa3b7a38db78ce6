use Rattle.std.proofs.Common.{◌≡◌, ℕ, ◌<◌, Some, get_or}
use Rattle.std.specs.BTreeMap.{get}
use Rattle.std.specs.Ordering.{nat_cmp}
use Rattle.commit_point.specs.declared.heads.HeadSegment.{HeadSegment}
use Rattle.index_check.proofs.known.kept_counts.Given as goal

abbrev pub invariant-loop-entry : goal.invariant-loop-entry
invariant-loop-entry l = record {
  known : (id rows : ℕ) → get nat_cmp l.kept id ≡ Some rows → get nat_cmp l.counts id ≡ Some rows;
  entries : (k : ℕ) (d : HeadSegment) → k < l.entry-index → get nat_cmp l.kept (get_or l.entries k d).id ≡ get nat_cmp l.counts (get_or l.entries k d).id;
}
