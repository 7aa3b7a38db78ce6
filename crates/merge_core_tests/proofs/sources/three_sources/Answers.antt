use Rattle.std.proofs.Common.{subst, sym}
use Rattle.merge_core_tests.specs.Reading.{AreSources}
use Rattle.merge_core_tests.proofs.Thirds.{three_sources}
use Rattle.merge_core_tests.proofs.sources.three_sources.Goals as goal

pub returns : goal.returns
returns c =
    subst AreSources (sym c.in_ok-segments.ensures.items)
    (three_sources c.in_ok-first.first c.in_ok-second.second c.in_ok-last.last c.in_ok-first.ensures c.in_ok-second.ensures c.in_ok-last.ensures)
