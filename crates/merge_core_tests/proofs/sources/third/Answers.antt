use Rattle.std.proofs.Common.{subst}
use Rattle.segment_core.specs.LiveRows.{Built}
use Rattle.merge_core_tests.proofs.Thirds.{third_of}
use Rattle.merge_core_tests.proofs.sources.third.Goals as goal

pub returns-in-Some : goal.returns-in-Some
returns-in-Some c =
    third_of c.args.first c.in_ok-rows.rows.items c.in_ok-deletes.field-0 c.in-Some.segment c.in_ok-rows.ensures.rise c.in_ok-rows.ensures.born c.in_ok-rows.ensures.few
    (subst (Built c.in_ok-rows.rows.items c.in_ok-deletes.field-0 c.args.first 40000) c.in-Some.is c.in_ok-segment.ensures)
