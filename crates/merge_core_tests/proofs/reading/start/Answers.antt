use Rattle.merge_core_tests.proofs.ReadAll.{can_start, starts}
use Rattle.merge_core_tests.proofs.reading.start.Goals as goal

pub start-requires : goal.start-requires
start-requires c = can_start c.args.segments.now c.in_ok-ids.ids.items c.in_ok-ids.ensures c.requires

pub returns : goal.returns
returns c =
    starts c.in_ok-merge.merge c.args.segments.now c.in_ok-ids.ids.items c.in_ok-ids.ensures c.requires c.in_ok-merge.ensures.ids c.in_ok-merge.ensures.read
