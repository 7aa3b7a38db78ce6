use Rattle.std.proofs.Common.{◌≡◌, [], All, length, drop, get_or}
use Rattle.std.specs.List.{list_any}
use Rattle.query_core.specs.Answers.{IsRising}
use Rattle.query_core.specs.Phrases.{lists_of, in_turn, follow_from}
use Rattle.query_core.proofs.phrase.have_run.Given as goal

abbrev pub invariant-loop-at : goal.invariant-loop-at
invariant-loop-at l = record {
  ends : length l.ends.items ≡ length l.lists;
  before : All IsRising (lists_of l.lists) → list_any (follow_from (in_turn [] (lists_of l.lists) l.order)) (drop l.at-index (get_or (lists_of l.lists) (get_or l.order 0 0) []))
      ≡ list_any (follow_from (in_turn [] (lists_of l.lists) l.order)) (get_or (lists_of l.lists) (get_or l.order 0 0) []);
}
