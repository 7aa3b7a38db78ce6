use Rattle.index_writer_tests.proofs.tests.fill.Goals as goal

pub told-requires : goal.told-requires
told-requires c = (c.requires.0, c.loop-number.invariant c.requires.0 c.requires.1)
