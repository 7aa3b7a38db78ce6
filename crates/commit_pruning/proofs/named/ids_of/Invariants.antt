use Rattle.std.proofs.Common.{◌≡◌, ℕ, take}
use Rattle.std.specs.BTreeSet.{contains}
use Rattle.std.specs.Ordering.{nat_cmp}
use Rattle.commit_pruning.specs.Choosing.{has_id}
use Rattle.commit_pruning.proofs.named.ids_of.Given as goal

abbrev pub invariant-loop-entry : goal.invariant-loop-entry
invariant-loop-entry l = (id : ℕ) → contains nat_cmp l.ids id ≡ has_id (take l.entry-index l.entries) id
