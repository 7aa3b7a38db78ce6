use Rattle.segment_files.specs.Spelling.{term_postings}
use Rattle.segment_files.proofs.Rooms.{IsLeft}
use Rattle.segment_files.proofs.sizes.behind_postings.Given as goal

abbrev pub invariant-loop-entry : goal.invariant-loop-entry
invariant-loop-entry l = record {
  left : IsLeft term_postings l.fn.room l.entries l.entry-index l.left;
}
