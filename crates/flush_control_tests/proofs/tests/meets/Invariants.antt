use Rattle.std.proofs.Common.{take}
use Rattle.std.specs.List.{All}
use Rattle.packet_apply.specs.Packets.{Meets}
use Rattle.flush_control_tests.proofs.tests.meets.Given as goal

abbrev pub invariant-loop-segment : goal.invariant-loop-segment
invariant-loop-segment l = All (Meets l.packet) (take l.segment-index l.segments)
