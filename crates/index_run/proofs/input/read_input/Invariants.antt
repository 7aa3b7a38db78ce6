use Rattle.std.proofs.Common.{◌≤◌, ◌-◌, length}
use Rattle.std.specs.Io.KnownBytes.{Consumes}
use Rattle.index_run.proofs.input.read_input.Given as goal

abbrev pub invariant-loop-buffer : goal.invariant-loop-buffer
invariant-loop-buffer g l = record {
  read : Consumes (g.I.Source.left l.fn.input) (g.I.Source.left l.input) l.bytes.items;
  later : g.I.Source.fault_count l.fn.input ≤ g.I.Source.fault_count l.input;
  few : length l.bytes.items ≤ 67108865;
  some : 1 ≤ length l.buffer.items;
}

abbrev pub decreases-loop-buffer : goal.decreases-loop-buffer
decreases-loop-buffer g l = 67108865 - length l.bytes.items
