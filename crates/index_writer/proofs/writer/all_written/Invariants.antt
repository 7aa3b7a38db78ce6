use Rattle.std.proofs.Common.{◌≡◌, ◌++◌, drop}
use Rattle.index_writer.specs.Ready.{written_of}
use Rattle.index_writer.proofs.writer.all_written.Given as goal

abbrev pub invariant-loop-at : goal.invariant-loop-at
invariant-loop-at l = l.made ++ written_of (drop l.at l.entries) (drop l.at l.segments) ≡ written_of l.entries l.segments
