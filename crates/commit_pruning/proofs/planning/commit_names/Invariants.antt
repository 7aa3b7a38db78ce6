use Rattle.std.proofs.Common.{◌≡◌, map, take}
use Rattle.ix_base.specs.declared.file_name.FileName.TheVariants.{Commit}
use Rattle.commit_pruning.proofs.planning.commit_names.Given as goal

abbrev pub invariant-loop-number : goal.invariant-loop-number
invariant-loop-number l = l.names.items ≡ map Commit (take l.number-index l.numbers)
