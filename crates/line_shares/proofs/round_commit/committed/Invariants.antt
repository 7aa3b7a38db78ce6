use Rattle.std.proofs.Common.{◌≡◌, drop}
use Rattle.line_shares.specs.Committed.{commit_among, told_past}
use Rattle.line_shares.proofs.round_commit.committed.Given as goal

abbrev pub invariant-loop-at : goal.invariant-loop-at
invariant-loop-at l =
    commit_among l.number (told_past (drop l.at l.counts) (drop l.at l.shares))
    ≡ commit_among l.number (told_past l.counts l.shares)
