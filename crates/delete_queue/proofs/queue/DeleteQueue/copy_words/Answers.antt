use Rattle.std.proofs.Common.{◌≡◌, ◌+◌, ◌∙◌, length, refl, arith}
use Rattle.delete_queue.specs.Seats.{the_view}
use Rattle.delete_queue.proofs.Fields.{reread, rereads_on, rereads_knows}
use Rattle.delete_queue.proofs.Looking.{may_word}
use Rattle.delete_queue.proofs.Reading.{knows_entry, head_stays}
use Rattle.delete_queue.proofs.Copying.{pushes}
use Rattle.delete_queue.proofs.queue.DeleteQueue.copy_words.Goals as goal

pub load_linked-requires-clause-place : goal.load_linked-requires-clause-place
load_linked-requires-clause-place c =
    let i = c.loop-i.invariant in let f = c.requires.found in let p = c.args.found.place in
    let head = head_stays c.args.seat.now c.loop-i.seat p f.head i.1 f.known in
    let lt = c.loop-i-test.true in let size = f.words in
    may_word (the_view c.loop-i.seat) p.at p.word c.loop-i.i f.head i.0.1 head.entry head.seen head.known (omega (arith, lt, size))

pub loop-i-preserved : goal.loop-i-preserved
loop-i-preserved c =
    let i = c.loop-i.invariant in let w = c.load_linked.new.seat.me.0 in let len = i.6 in let more = c.push_reserved.ensures.len in (
      c.load_linked.ensures.seat,
      rereads_on (the_view c.args.seat.now) (the_view c.loop-i.seat) w i.1 (rereads_knows (the_view c.loop-i.seat) w _ _ c.load_linked.ensures.view),
      i.2,
      i.3,
      refl,
      c.push_reserved.ensures.capacity ∙ i.5,
      omega (arith, len, more),
      pushes (the_view c.loop-i.seat) w (c.args.found.place.word + 1) c.loop-i.i c.load_linked.result c.args.words.now.items c.loop-i.words.items _ c.load_linked.ensures.view c.push_reserved.ensures.items i.7,
    )

pub returns-clause-seat : goal.returns-clause-seat
returns-clause-seat c = let i = c.loop-i.invariant in reread c.args.self.now c.args.seat.now c.loop-i.seat c.requires.seat i.0 i.1 i.2 i.3

pub returns-clause-words : goal.returns-clause-words
returns-clause-words c =
    let i = c.loop-i.invariant in let f = c.requires.found in let p = c.args.found.place in
    let head = head_stays c.args.seat.now c.loop-i.seat p f.head i.1 f.known in
    let ge = c.loop-i-test.false in let end = c.loop-i.auto.i-end in let size = f.words in let len = i.7.2 in
    let all : length i.7.0 ≡ c.args.found.words = omega (arith, ge, end, len) in
    (i.7.0, i.7.1, knows_entry c.loop-i.seat p f.head i.7.0 i.0.1 head (all ∙ size) (λ d lt. i.7.3 d (omega (arith, lt, len))))
