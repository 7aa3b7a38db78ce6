use Rattle.std.proofs.Common.{◌≡◌, ◌++◌, drop}
use Rattle.commit_point.specs.Encoding.{AreEncoded}
use Rattle.commit_point.specs.Writing.{commit_files}
use Rattle.commit_point.proofs.prepare.files.Given as goal

abbrev pub invariant-loop-i : goal.invariant-loop-i
invariant-loop-i l = record {
  files : l.files.items ++ commit_files l.number (drop l.i l.segments) (drop l.i l.written) ≡ commit_files l.number l.segments l.written;
  encoded : (AreEncoded (drop l.i l.segments) (drop l.i l.written) → AreEncoded l.segments l.written);
}
