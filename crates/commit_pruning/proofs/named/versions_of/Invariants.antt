use Rattle.std.proofs.Common.{◌≡◌, ℕ, take}
use Rattle.std.specs.BTreeSet.{contains}
use Rattle.commit_pruning.specs.Choosing.{has_written}
use Rattle.commit_pruning.specs.Naming.{by_version}
use Rattle.commit_pruning.proofs.named.versions_of.Given as goal

abbrev pub invariant-loop-entry : goal.invariant-loop-entry
invariant-loop-entry l = (id v : ℕ) → contains by_version l.versions (record { id = id; written = v }) ≡ has_written (take l.entry-index l.entries) id v
