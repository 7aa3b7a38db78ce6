use Rattle.std.proofs.Common.{◌≡◌, ◌<◌, ℕ, All, false, get_or}
use Rattle.ix_base.specs.Inversion.{has_number}
use Rattle.query_core.specs.Answers.{IsRising}
use Rattle.query_core.proofs.row_lists.marked.Given as goal

abbrev pub invariant-loop-at : goal.invariant-loop-at
invariant-loop-at l = record {
  rise : IsRising l.kept.items;
  below : All (λ x. x < l.at) l.kept.items;
  same : (x : ℕ) → x < l.at → has_number l.kept.items x ≡ get_or l.marks x false;
}
