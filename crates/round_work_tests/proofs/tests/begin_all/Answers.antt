use Rattle.std.proofs.Common.{◌≡◌, ◌+◌, [], ◌∷◌, ◌++◌, List, length, sym, ap, subst, arith, length-append}
use Rattle.std.specs.List.{AllByRecursion}
use Rattle.std.specs.Vec.Iter.{into_iter_items}
use Rattle.delete_queue.specs.Making.{AreNewFrom}
use Rattle.delete_queue.specs.declared.seat.Seat.{Seat}
use Rattle.thread_writer.specs.declared.writer.ThreadWriter.{ThreadWriter}
use Rattle.worker_tasks.specs.declared.share.Share.{Share}
use Rattle.round_work.specs.Working.{AreAtWork, IsAtWork}
use Rattle.round_work.proofs.Workers.{at_work_more}
use Rattle.round_work_tests.specs.Shares.{CanGoOn}
use Rattle.round_work_tests.proofs.tests.begin_all.Goals as goal

pub loop-share-preserved : goal.loop-share-preserved
loop-share-preserved c =
    let q = c.args.queue.now in
    let at = c.loop-share in
    let n = length at.writers.items in
    let w = c.writer_for.result in
    let s = c.in-Some.share in
    let seats = subst (AreNewFrom q n) c.in-Some-next.ensures.cases.0 at.invariant.seats in
    let shares = subst (AllByRecursion CanGoOn) c.in-Some.ensures.steps.0 at.invariant.shares in
    let more = at_work_more q 0 n at.writers.items at.begun.items w s at.invariant.all (omega arith)
    (subst (λ k. IsAtWork q k w s) seats.0.number c.writer_for.ensures) in
    let many = ap (λ (ws : List ThreadWriter). length ws) c.in_ok-push.ensures.items in
    let one = length-append at.writers.items (w ∷ []) in
    record {
      seats = subst (λ k. AreNewFrom q k (into_iter_items c.next-in-loop-share.new.self))
          (let e : n + 1 ≡ length c.push.new.self.items = omega (arith, many, one) in e) seats.1;
      shares = shares.1;
      all =
          subst (λ (ss : List Share). AreAtWork q 0 c.push.new.self.items ss) (sym c.in_ok-push-2.ensures.items)
          (subst (λ (ws : List ThreadWriter). AreAtWork q 0 ws (at.begun.items ++ s ∷ [])) (sym c.in_ok-push.ensures.items) more);
    }
