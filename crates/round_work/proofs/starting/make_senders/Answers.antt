use Rattle.std.proofs.Common.{◌∙◌, List, [], ◌∷◌, ap, sym, subst, arith, length, length-append}
use Rattle.piece_queue.specs.declared.sender.Sender.{Sender}
use Rattle.round_work.specs.Rounds.{AreFresh}
use Rattle.round_work.proofs.Workers.{fresh_more}
use Rattle.round_work.proofs.starting.make_senders.Goals as goal

pub loop-preserved : goal.loop-preserved
loop-preserved c =
    let at = c.loop in
    let x = c.make_sender.result in
    let made = c.make_sender.ensures in
    let items = c.push_reserved.ensures.items in
    let more = c.loop-test.true in
    let one = ap (λ (xs : List Sender). length xs) items in
    let pushed = length-append at.senders.items (x ∷ []) in
    let before = at.invariant.made in
    let count = at.invariant.count in
    let room = at.invariant.room in
    let now = made.made in
    let capacity = c.push_reserved.ensures.capacity in
    record {
      receiver = made.receiver;
      made = (omega (arith, before, now));
      ended = made.ended ∙ at.invariant.ended;
      senders = subst (AreFresh c.args.pieces.now 0) (sym items)
          (fresh_more c.args.pieces.now 0 at.counter at.senders.items x at.invariant.senders (omega (arith, count))
          record { is = made.sender; number_is = made.number ∙ before; sent = made.fresh });
      count = (omega (arith, one, pushed, count));
      few = (omega (arith, more));
      room = (omega (arith, room, capacity));
    }
