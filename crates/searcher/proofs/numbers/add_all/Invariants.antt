use Rattle.std.proofs.Common.{◌≡◌, ◌++◌, take}
use Rattle.searcher.proofs.numbers.add_all.Given as goal

abbrev pub invariant-loop-pair : goal.invariant-loop-pair
invariant-loop-pair l = l.made.items ≡ l.initial.made.items ++ take l.pair-index l.pairs
