use Rattle.merge_core_tests.proofs.ReadAll.{can_finish}
use Rattle.merge_core_tests.proofs.reading.finished.Goals as goal

pub finish-requires : goal.finish-requires
finish-requires c = can_finish c.args.merge c.args.segments.now c.requires
