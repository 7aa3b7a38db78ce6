use Rattle.std.proofs.Common.{◌-◌, ◌≡◌, ◌≤◌, ◌^◌, ℕ, ◌<◌}
use Rattle.index_writer.proofs.pace.levels.Given as goal

pub record Reaches (merge reached levels : ℕ) : Type 0 where
  pub is : reached ≡ merge ^ levels
  pub fewest : (j : ℕ) → j < levels → merge ^ j < 4096
  pub few : levels ≤ reached
  pub some : 1 ≤ reached
  pub most : reached ≤ 262144

abbrev pub invariant-loop-reached : goal.invariant-loop-reached
invariant-loop-reached l = Reaches l.merge l.reached l.levels

abbrev pub decreases-loop-reached : goal.decreases-loop-reached
decreases-loop-reached l = 4096 - l.reached
