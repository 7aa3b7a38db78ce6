use Rattle.frozen_packet.specs.Updates.{as_operations, NumberedUpTo}
use Rattle.packet_apply_tests.proofs.tests.set_forty.Given as goal

abbrev pub invariant-loop-at : goal.invariant-loop-at
invariant-loop-at l = NumberedUpTo 8 (as_operations l.updates)
