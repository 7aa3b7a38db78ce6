use Rattle.std.proofs.Common.{◌≡◌, [], All, true, length, take}
use Rattle.query_core.specs.Answers.{IsRising}
use Rattle.query_core.specs.Phrases.{lists_of, in_turn, follow_from}
use Rattle.query_core.proofs.phrase.follow_from.Given as goal

abbrev pub invariant-loop-i : goal.invariant-loop-i
invariant-loop-i l = record {
  ends : length l.ends ≡ length l.lists;
  follow : All IsRising (lists_of l.lists) → follow_from (take l.i (in_turn [] (lists_of l.lists) l.order)) l.fn.at ≡ true;
}
