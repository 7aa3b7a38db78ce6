use Rattle.std.proofs.Common.{◌∙◌}
use Rattle.merge_core_tests.proofs.Thirds.{no_sources}
use Rattle.merge_core_tests.proofs.tests_sources.made_of_none.Goals as goal

pub start-requires : goal.start-requires
start-requires c = no_sources c.as_slice.result.now (c.as_slice.ensures.value ∙ c.new-segments.ensures.items)
