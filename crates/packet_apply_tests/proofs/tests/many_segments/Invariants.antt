use Rattle.std.specs.Prelude.{All}
use Rattle.packet_apply.specs.Packets.{Meets}
use Rattle.packet_apply_tests.proofs.tests.many_segments.Given as goal

abbrev pub invariant-loop : goal.invariant-loop
invariant-loop l = All (Meets l.packet) l.segments.items
