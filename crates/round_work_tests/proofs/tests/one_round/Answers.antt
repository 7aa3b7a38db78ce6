use Rattle.std.proofs.Common.{IfOk, subst}
use Rattle.round_work.specs.Working.{AreWorked}
use Rattle.round_work_tests.proofs.Last.{last_worked}
use Rattle.round_work_tests.proofs.tests.one_round.Goals as goal

pub share_of-requires : goal.share_of-requires
share_of-requires g c =
    let q = c.in_ok-queue.queue in
    let begun = c.in_ok-writers in
    let are = subst (λ r. IfOk r (λ all. AreWorked q begun.writers.items begun.shares.items all.items)) c.in_ok-all.was
    c.run_round-back.ensures.works in
    let works = (last_worked q begun.writers.items begun.shares.items c.in_ok-all.all.items c.pop.new.self.items c.in-Some.worked are
    c.in-Some.ensures.items).2 in
    record { few = works.does.few; sent = works.sent }
