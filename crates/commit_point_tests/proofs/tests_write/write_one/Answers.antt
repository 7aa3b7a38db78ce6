use Rattle.std.proofs.Common.{arith}
use Rattle.commit_point_tests.proofs.Trials.{can_one}
use Rattle.commit_point_tests.proofs.tests_write.write_one.Goals as goal

pub write_commit-requires-clause-can : goal.write_commit-requires-clause-can
write_commit-requires-clause-can g c =
    can_one c.args.number 2 c.args.segment c.args.written _ _ c.from_ref-segments.ensures.value c.from_ref-written.ensures.value (omega (arith, c.requires.id), omega (arith, c.requires.id))
    c.requires.can c.requires.written
