use Rattle.ram_postings_tests.proofs.LowBirths.{three_wait}
use Rattle.ram_postings_tests.proofs.tests.with_block.Goals as goal

pub born_block-requires-2-clause-waiting : goal.born_block-requires-2-clause-waiting
born_block-requires-2-clause-waiting c =
    three_wait c.born_block.new.self c.stage-3.new.self c.stage-4.new.self c.stage-5.new.self
    c.in_ok-analyse-3.field-0.doc c.in_ok-analyse-4.field-0.doc c.in_ok-analyse-5.field-0.doc c.in_ok-first.first.0
    c.in_ok-first.ensures.place c.in_ok-first.ensures.ok c.in_ok-stage-2.ensures.ok c.in_ok-stage-3.ensures.ok
