use Rattle.std.specs.List.{AllByRecursion}
use Rattle.merge_postings.specs.Renumbering.{CanMove}
use Rattle.merge_postings_tests.proofs.parts.sources_of.Given as goal

abbrev pub invariant-loop-part : goal.invariant-loop-part
invariant-loop-part l = AllByRecursion CanMove l.sources.items
