use Rattle.std.proofs.Common.{◌+◌, length}
use Rattle.ram_postings_tests.proofs.LowBirths.{AreBelow}
use Rattle.ram_postings_tests.proofs.tests_large.drawn_buffer.Given as goal

abbrev pub invariant-loop-number : goal.invariant-loop-number
invariant-loop-number l = AreBelow (length l.buffer + 1) l.buffer
