use Rattle.std.proofs.Common.{◌≡◌, ◌+◌, ◌≤◌, length}
use Rattle.op_script.specs.Language.{lines_from, onto}
use Rattle.op_script.specs.Lines.{lines_of, HasAsked}
use Rattle.op_script.proofs.read.read_lines.Given as goal

abbrev pub invariant-loop-text : goal.invariant-loop-text
invariant-loop-text l = record {
  counted : l.at + length l.rest ≤ length l.bytes + 1;
  read : onto l.lines.items (lines_from l.at (lines_of l.rest)) ≡ lines_from 1 (lines_of l.bytes);
  asked : HasAsked l.rest → HasAsked l.bytes;
}

abbrev pub decreases-loop-text : goal.decreases-loop-text
decreases-loop-text l = length l.rest
