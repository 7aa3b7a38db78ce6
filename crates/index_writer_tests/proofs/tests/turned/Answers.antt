use Rattle.index_writer_tests.proofs.tests.turned.Goals as goal

pub fills_up-requires : goal.fills_up-requires
fills_up-requires g c = (_, c.in_ok-parts.ensures.parts)

pub ended-requires-clause-parts : goal.ended-requires-clause-parts
ended-requires-clause-parts g c = λ lifetimes. c.in_ok-fills_up.ensures _ c.in_ok-parts.ensures.parts
