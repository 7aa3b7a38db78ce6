use Rattle.std.proofs.Common.{◌≡◌, ◌∙◌, ℕ, ◌+◌, List, length, sym, ap, subst, arith, length-append}
use Rattle.std.specs.Vec.Iter.{into_iter_items}
use Rattle.delete_queue.specs.Making.{AreNewFrom}
use Rattle.thread_writer.specs.declared.writer.ThreadWriter.{ThreadWriter}
use Rattle.index_writer.specs.Rounds.{AreBegunFrom, IsBegunWriter}
use Rattle.index_writer.proofs.Begins.{made, one_more}
use Rattle.index_writer.proofs.begin.writers_of.Goals as goal

pub make-requires-clause-seat : goal.make-requires-clause-seat
make-requires-clause-seat c = (subst (AreNewFrom c.args.queue.now (length c.loop-seat.writers.items)) c.in-Some.ensures.steps.0 c.loop-seat.invariant.rest).0.seat.shows

pub make-requires-clause-own : goal.make-requires-clause-own
make-requires-clause-own c = (subst (AreNewFrom c.args.queue.now (length c.loop-seat.writers.items)) c.in-Some.ensures.steps.0 c.loop-seat.invariant.rest).0.own

pub loop-seat-preserved : goal.loop-seat-preserved
loop-seat-preserved c =
    let q = c.args.queue.now in
    let before = c.loop-seat.writers.items in
    let new = subst (AreNewFrom q (length before)) c.in-Some.ensures.steps.0 c.loop-seat.invariant.rest in
    let items = c.in_ok-push.ensures.items in
    let long : length c.push.new.self.items ≡ length before + 1 = ap (λ (ws : List ThreadWriter). length ws) items ∙ length-append before _ in
    let steps = c.in-Some.ensures.steps.0 in
    record {
      count = omega (arith, long, ap length steps, c.loop-seat.invariant.count);
      made =
          subst (AreBegunFrom q c.args.buffer 0) (sym items)
          (one_more q c.args.buffer 0 before c.make.result c.loop-seat.invariant.made
          (subst (λ (n : ℕ). IsBegunWriter q c.args.buffer n c.make.result) (omega arith)
          (made q c.args.buffer (length before) c.in-Some.seat c.make.result new.0 c.make.ensures.parts.0 c.make.ensures.parts.1 c.make.ensures.ready)));
      rest = subst (λ (n : ℕ). AreNewFrom q n (into_iter_items c.next.new.self)) (sym long) new.1;
    }
