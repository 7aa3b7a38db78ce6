use Rattle.index_writer_tests.proofs.tests.fills_up.Goals as goal

pub told-requires : goal.told-requires
told-requires c = (c.requires.0, c.in_ok-filled.ensures c.requires.0 c.requires.1)

pub told-requires-2 : goal.told-requires-2
told-requires-2 c = (c.requires.0, c.in_ok-first.ensures c.requires.0 (c.in_ok-filled.ensures c.requires.0 c.requires.1))
