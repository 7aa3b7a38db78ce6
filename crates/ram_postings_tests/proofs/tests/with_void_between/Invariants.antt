use Rattle.std.proofs.Common.{◌+◌, length}
use Rattle.ram_postings_tests.proofs.LowBirths.{AreBelow}
use Rattle.ram_postings_tests.proofs.tests.with_void_between.Given as goal

abbrev pub invariant-loop-key : goal.invariant-loop-key
invariant-loop-key l = AreBelow (length l.buffer + 1) l.buffer
