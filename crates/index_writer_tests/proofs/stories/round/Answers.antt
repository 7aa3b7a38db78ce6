use Rattle.index_writer_tests.proofs.stories.round.Goals as goal

pub work-requires : goal.work-requires
work-requires g c = (_, c.in_ok-parts.ensures.parts)

pub ended-requires-clause-parts : goal.ended-requires-clause-parts
ended-requires-clause-parts g c = λ lifetimes lives. c.in_ok-work.ensures _ c.in_ok-parts.ensures.parts
