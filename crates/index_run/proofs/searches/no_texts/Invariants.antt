use Rattle.std.proofs.Common.{◌≡◌, length}
use Rattle.std.specs.List.{AllByRecursion}
use Rattle.index_run.specs.Answered.{IsNone}
use Rattle.index_run.proofs.searches.no_texts.Given as goal

abbrev pub invariant-loop : goal.invariant-loop
invariant-loop l = record {
  count : length l.texts.items ≡ l.counter;
  none : AllByRecursion IsNone l.texts.items;
}
