use Rattle.std.proofs.Common.{subst}
use Rattle.segment_core.specs.LiveRows.{Built}
use Rattle.merge_core_tests.proofs.ReadAll.{source_of}
use Rattle.merge_core_tests.proofs.tests_changes.source.Goals as goal

pub returns-in-Some : goal.returns-in-Some
returns-in-Some c =
    source_of c.in_ok-rows.rows.items c.new.result c.in-Some.segment c.in_ok-rows.ensures.births c.in_ok-rows.ensures.count
    (subst (Built c.in_ok-rows.rows.items c.new.result 1 9) c.in-Some.is c.in_ok-segment.ensures)
