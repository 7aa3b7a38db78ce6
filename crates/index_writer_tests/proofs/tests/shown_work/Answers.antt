use Rattle.index_writer_tests.proofs.tests.shown_work.Goals as goal

pub told-requires : goal.told-requires
told-requires c = c.loop-line.invariant

pub loop-line-preserved : goal.loop-line-preserved
loop-line-preserved c = let before = c.loop-line.invariant in (before.0, c.in_ok-told.ensures before.0 before.1)
