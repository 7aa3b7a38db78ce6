use Rattle.std.proofs.Common.{◌≡◌, take}
use Rattle.std.specs.List.{flat_map}
use Rattle.store_answers.specs.Listing.{line_text}
use Rattle.index_run.proofs.checking.lines_of.Given as goal

abbrev pub invariant-loop-head : goal.invariant-loop-head
invariant-loop-head l = l.text.items ≡ flat_map line_text (take l.head-index l.heads)
