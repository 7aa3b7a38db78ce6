use Rattle.frozen_packet.specs.Updates.{as_operations, NumberedUpTo}
use Rattle.segment_core_tests.proofs.tests_live.updates_of.Given as goal

abbrev pub invariant-loop-step : goal.invariant-loop-step
invariant-loop-step l = NumberedUpTo l.number (as_operations l.updates)
