use Rattle.std.proofs.Common.{◌≡◌, ◌≢◌, ℕ, Some, take}
use Rattle.std.specs.Prelude.{IsSome}
use Rattle.index_check.specs.Earlier.{AreOwned}
use Rattle.index_check.specs.Known.{count_of, owner_of}
use Rattle.index_check.proofs.known.Known.take.Given as goal

abbrev pub invariant-loop-row : goal.invariant-loop-row
invariant-loop-row l = record {
  counts : l.self.row_counts ≡ l.fn.self.row_counts;
  owned : AreOwned (owner_of l.self) l.id (take l.row-index l.rows);
  others : (number other : ℕ) → l.id ≢ other → IsSome (count_of l.fn.self other) → owner_of l.fn.self number ≡ Some other → owner_of l.self number ≡ Some other;
}
