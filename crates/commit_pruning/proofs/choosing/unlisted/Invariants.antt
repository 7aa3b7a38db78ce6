use Rattle.std.proofs.Common.{◌≡◌, take}
use Rattle.commit_pruning.specs.Choosing.{unlisted}
use Rattle.commit_pruning.proofs.choosing.unlisted.Given as goal

abbrev pub invariant-loop-name : goal.invariant-loop-name
invariant-loop-name l = l.rest.items ≡ unlisted l.entries (take l.name-index l.names)
