use Rattle.frozen_packet.specs.Updates.{as_operations, NumberedUpTo}
use Rattle.frozen_packet_tests.proofs.tests.taken.Given as goal

abbrev pub invariant-loop-entry : goal.invariant-loop-entry
invariant-loop-entry l = NumberedUpTo l.last (as_operations l.updates)
