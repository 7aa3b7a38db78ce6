use Rattle.std.proofs.Common.{◌≡◌, ◌+◌, ◌≤◌, length}
use Rattle.op_script.specs.Questions.{questions_from, onto}
use Rattle.op_script.specs.Lines.{lines_of, HasAsked}
use Rattle.op_script.proofs.read_questions.read_questions.Given as goal

abbrev pub invariant-loop-text : goal.invariant-loop-text
invariant-loop-text l = record {
  counted : l.at + length l.rest ≤ length l.bytes + 1;
  read : onto l.questions.items (questions_from l.at (lines_of l.rest)) ≡ questions_from 1 (lines_of l.bytes);
  asked : HasAsked l.rest → HasAsked l.bytes;
}

abbrev pub decreases-loop-text : goal.decreases-loop-text
decreases-loop-text l = length l.rest
