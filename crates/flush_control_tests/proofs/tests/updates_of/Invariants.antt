use Rattle.frozen_packet.specs.Updates.{as_operations, NumberedUpTo}
use Rattle.flush_control_tests.proofs.tests.updates_of.Given as goal

abbrev pub invariant-loop-number : goal.invariant-loop-number
invariant-loop-number l = NumberedUpTo l.last (as_operations l.updates)
