use Rattle.std.proofs.Common.{◌≡◌, ◌++◌, drop}
use Rattle.index_writer.specs.Storing.{renewed}
use Rattle.index_writer.proofs.commit.renewed.Given as goal

abbrev pub invariant-loop-at : goal.invariant-loop-at
invariant-loop-at l = l.made ++ renewed l.number (drop l.at l.segments) (drop l.at l.written) ≡ renewed l.number l.segments l.written
