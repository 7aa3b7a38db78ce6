use Rattle.std.proofs.Common.{◌≡◌, take}
use Rattle.ram_postings.specs.Kept.{born_marks}
use Rattle.ram_postings.proofs.numbers.marks_of.Given as goal

abbrev pub invariant-loop-entry : goal.invariant-loop-entry
invariant-loop-entry l = l.marks.items ≡ born_marks (take l.entry-index l.staged)
