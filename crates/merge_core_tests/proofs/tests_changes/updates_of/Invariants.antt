use Rattle.frozen_packet.specs.Updates.{as_operations, NumberedUpTo}
use Rattle.merge_core_tests.proofs.tests_changes.updates_of.Given as goal

abbrev pub invariant-loop-words : goal.invariant-loop-words
invariant-loop-words l = NumberedUpTo 10 (as_operations l.updates)
