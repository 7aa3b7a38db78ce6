use Rattle.std.proofs.Common.{◌≡◌, ◌≤◌, ◌-◌, drop, length}
use Rattle.line_shares.specs.Committed.{commit_in}
use Rattle.worker_tasks.specs.Replies.{told_in}
use Rattle.line_shares.proofs.round_commit.commit_past.Given as goal

abbrev pub invariant-loop-at : goal.invariant-loop-at
invariant-loop-at l = record {
  same :
      commit_in l.number (told_in (drop l.at l.tasks) (drop l.at l.replies))
      ≡ commit_in l.number (told_in (drop l.count l.tasks) (drop l.count l.replies));
  behind : l.count ≤ l.at;
}

abbrev pub decreases-loop-at : goal.decreases-loop-at
decreases-loop-at l = length l.replies - l.at
