use Rattle.std.proofs.Common.{◌≡◌, map, take}
use Rattle.line_shares.specs.Committed.{told_count}
use Rattle.line_shares.proofs.round_commit.told_counts.Given as goal

abbrev pub invariant-loop-share : goal.invariant-loop-share
invariant-loop-share l = l.counts.items ≡ map told_count (take l.share-index l.shares)
