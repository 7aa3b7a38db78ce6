use Rattle.index_writer_tests.proofs.stories.work.Goals as goal

pub told-requires : goal.told-requires
told-requires c = (c.requires.0, c.loop-line.invariant c.requires.0 c.requires.1)
