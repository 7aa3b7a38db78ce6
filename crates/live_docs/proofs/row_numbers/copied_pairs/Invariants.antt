use Rattle.std.proofs.Common.{◌≡◌, take}
use Rattle.live_docs.proofs.row_numbers.copied_pairs.Given as goal

abbrev pub invariant-loop-pair : goal.invariant-loop-pair
invariant-loop-pair l = l.pairs.items ≡ take l.pair-index l.numbers
