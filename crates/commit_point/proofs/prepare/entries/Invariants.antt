use Rattle.std.proofs.Common.{◌≡◌, ◌++◌, drop}
use Rattle.commit_point.specs.Writing.{entries_of}
use Rattle.commit_point.proofs.prepare.entries.Given as goal

abbrev pub invariant-loop-i : goal.invariant-loop-i
invariant-loop-i l = l.entries.items ++ entries_of l.number (drop l.i l.segments) (drop l.i l.written) ≡ entries_of l.number l.segments l.written
