use Rattle.std.proofs.Common.{arith}
use Rattle.std.proofs.lemmas.Grind.{common_steps}
use Rattle.delete_queue.specs.Seats.{IsSeatOf}
use Rattle.thread_writer_tests.proofs.tests.two_writers.Goals as goal

pub returns-clause-first : goal.returns-clause-first
returns-clause-first c =
    let h : IsSeatOf c.in_ok-queue.queue c.in_ok-ok_or-2.field-0 = grind (arith, common_steps) in (c.make-first.ensures.ready c.in_ok-queue.queue h).0

pub returns-clause-second : goal.returns-clause-second
returns-clause-second c =
    let h : IsSeatOf c.in_ok-queue.queue c.in_ok-ok_or.field-0 = grind (arith, common_steps) in (c.make-second.ensures.ready c.in_ok-queue.queue h).0
