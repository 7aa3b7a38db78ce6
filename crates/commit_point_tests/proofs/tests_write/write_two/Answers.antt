use Rattle.std.proofs.Common.{arith}
use Rattle.commit_point_tests.proofs.Trials.{can_two}
use Rattle.commit_point_tests.proofs.tests_write.write_two.Goals as goal

pub write_commit-requires-clause-can : goal.write_commit-requires-clause-can
write_commit-requires-clause-can g c =
    let first = c.requires.ids.0 in
    let second = c.requires.ids.1 in
    can_two c.args.number 3 c.args.kept c.args.fresh c.args.was (omega (arith, first), omega (arith, first, second), omega (arith, second)) c.requires.births.0 c.requires.births.1 c.requires.can.0
    c.requires.can.1 c.requires.was
