use Rattle.merge_postings_tests.proofs.parts.merged.Goals as goal

pub finish-requires-clause-upto : goal.finish-requires-clause-upto
finish-requires-clause-upto c = c.new-merged.ensures _
