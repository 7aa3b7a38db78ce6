use Rattle.std.proofs.Common.{◌≡◌}
use Rattle.live_files.specs.LiveMarks.{marks_of}
use Rattle.live_files.proofs.JoinLive.{made_and_left}
use Rattle.live_files.proofs.join_live.live_docs_of.Given as goal

abbrev pub invariant-loop-row : goal.invariant-loop-row
invariant-loop-row l = made_and_left l.marks.items l.row l.bits l.rest ≡ marks_of l.bits l.values
