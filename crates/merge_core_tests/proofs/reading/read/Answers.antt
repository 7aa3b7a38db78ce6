use Rattle.merge_core_tests.proofs.ReadAll.{is_of, steps}
use Rattle.merge_core_tests.proofs.reading.read.Goals as goal

pub step-requires : goal.step-requires
step-requires c = is_of c.args.merge.now c.args.segments.now c.requires.0 c.requires.1

pub returns : goal.returns
returns c =
    steps c.args.merge.now c.step.new.self c.args.segments.now c.args.rows c.requires.0 c.in_ok-step.step c.requires.1 c.in_ok-step.ensures.ids c.in_ok-step.ensures.ok
