use Rattle.live_files.proofs.JoinLive.{AreOwn}
use Rattle.live_files.proofs.join_live.own_count.Given as goal

abbrev pub invariant-loop-i : goal.invariant-loop-i
invariant-loop-i l = AreOwn l.row l.i l.values
