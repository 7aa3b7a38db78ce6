use Rattle.std.proofs.Common.{◌≡◌, ℕ, take}
use Rattle.std.specs.Prelude.{◌||◌}
use Rattle.std.specs.BTreeSet.{contains}
use Rattle.std.specs.Ordering.{nat_cmp}
use Rattle.segment_core.specs.Births.{has_number}
use Rattle.commit_point.proofs.load.add_numbers.Given as goal

abbrev pub invariant-loop-row : goal.invariant-loop-row
invariant-loop-row l = (n : ℕ) → contains nat_cmp l.earlier n ≡ (contains nat_cmp l.fn.earlier n || has_number (take l.row-index l.rows) n)
