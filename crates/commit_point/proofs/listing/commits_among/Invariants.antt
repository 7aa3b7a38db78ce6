use Rattle.std.proofs.Common.{◌≡◌, ℕ, take}
use Rattle.std.specs.BTreeSet.{contains}
use Rattle.std.specs.List.{list_any}
use Rattle.std.specs.Ordering.{nat_cmp}
use Rattle.commit_point.specs.Loading.{names_commit}
use Rattle.commit_point.proofs.listing.commits_among.Given as goal

abbrev pub invariant-loop-name : goal.invariant-loop-name
invariant-loop-name l = (s : ℕ) → contains nat_cmp l.numbers s ≡ list_any (names_commit s) (take l.name-index l.names)
