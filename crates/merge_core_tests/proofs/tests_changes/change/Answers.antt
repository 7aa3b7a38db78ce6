use Rattle.std.proofs.Common.{ap, rules}
use Rattle.segment_core.specs.LiveRows.{Lived}
use Rattle.merge_core_tests.proofs.ReadAll.{stays}
use Rattle.merge_core_tests.proofs.tests_changes.change.Goals as goal

pub returns : goal.returns
returns c = (
  c.requires.0,
  stays c.args.merge.now c.args.segment.now c.set_live.new.self c.requires.0 c.requires.1 c.reading_stays.ensures
      (ap (λ (s : Lived). s.segment) c.set_live.ensures) (search rules),
)
