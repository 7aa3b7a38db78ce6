use Rattle.std.proofs.Common.{◌+◌, ◌∙◌, refl, arith}
use Rattle.std.proofs.lemmas.List.{length-set}
use Rattle.delete_queue.specs.Seats.{the_view}
use Rattle.delete_queue.proofs.Fields.{reread, rereads_on, rereads_knows}
use Rattle.delete_queue.proofs.Looking.{may_word}
use Rattle.delete_queue.proofs.Reading.{fills, knows_entry, head_stays}
use Rattle.delete_queue.proofs.queue.DeleteQueue.read.Goals as goal

pub load_linked-requires-clause-place : goal.load_linked-requires-clause-place
load_linked-requires-clause-place c =
    let i = c.loop-i.invariant in let size = c.requires.words in
    let head = head_stays c.args.seat.now c.loop-i.seat c.args.place size.0 i.1 size.1 in
    let lt = c.loop-i-test.true in let len = size.2 in let same = i.4 in
    may_word (the_view c.loop-i.seat) c.args.place.at c.args.place.word c.loop-i.i size.0 i.0.1 head.entry head.seen head.known (omega (arith, lt, len, same))

pub loop-i-preserved : goal.loop-i-preserved
loop-i-preserved c =
    let i = c.loop-i.invariant in let w = c.load_linked.new.seat.me.0 in let lt = c.loop-i-test.true in let same = i.4 in (
      c.load_linked.ensures.seat,
      rereads_on (the_view c.args.seat.now) (the_view c.loop-i.seat) w i.1 (rereads_knows (the_view c.loop-i.seat) w _ _ c.load_linked.ensures.view),
      i.2,
      i.3,
      length-set c.loop-i.words c.loop-i.i c.load_linked.result ∙ i.4,
      refl,
      fills (the_view c.loop-i.seat) w (c.args.place.word + 1) c.loop-i.i c.load_linked.result c.loop-i.words c.load_linked.ensures.view (omega (arith, lt, same)) i.6,
    )

pub returns-clause-seat : goal.returns-clause-seat
returns-clause-seat c = let i = c.loop-i.invariant in reread c.args.self.now c.args.seat.now c.loop-i.seat c.requires.seat i.0 i.1 i.2 i.3

pub returns-clause-words : goal.returns-clause-words
returns-clause-words c =
    let i = c.loop-i.invariant in let size = c.requires.words in
    let head = head_stays c.args.seat.now c.loop-i.seat c.args.place size.0 i.1 size.1 in
    let ge = c.loop-i-test.false in let all = c.loop-i.auto in let same = i.4 in
    knows_entry c.loop-i.seat c.args.place size.0 c.loop-i.words i.0.1 head (i.4 ∙ size.2) (λ d lt. i.6 d (let n = c.loop-i.auto.i-end in omega (arith, lt, ge, same, n)))
