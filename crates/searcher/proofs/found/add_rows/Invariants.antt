use Rattle.std.proofs.Common.{◌≡◌, ◌++◌, take}
use Rattle.searcher.specs.Finding.{found_at}
use Rattle.searcher.proofs.found.add_rows.Given as goal

abbrev pub invariant-loop-number : goal.invariant-loop-number
invariant-loop-number l = l.found.items ≡ l.fn.found.items ++ found_at l.rows l.live.marks (take l.number-index l.numbers)
