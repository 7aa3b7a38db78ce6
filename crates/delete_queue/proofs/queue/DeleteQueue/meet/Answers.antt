use Rattle.std.proofs.Common.{refl, arith}
use Rattle.delete_queue.proofs.Meeting.{settled_loaded, settled_blank}
use Rattle.delete_queue.proofs.queue.DeleteQueue.meet.Goals as goal

pub returns-then-seat-gt0-clause-seat : goal.returns-then-seat-gt0-clause-seat
returns-then-seat-gt0-clause-seat c = let r = c.take_over.new.seat in
    (settled_loaded c.args.self.now c.args.seat.now c.args.other r (record { inner = c.load_linked.new.seat; base = r.base; progress = r.progress }) _ c.requires.seat c.requires.other c.take_over.ensures.taken c.take_over.ensures.view c.load_linked.ensures.seat c.load_linked.ensures.view refl refl).0

pub returns-then-seat-gt0-clause-meets : goal.returns-then-seat-gt0-clause-meets
returns-then-seat-gt0-clause-meets c = let r = c.take_over.new.seat in
    (settled_loaded c.args.self.now c.args.seat.now c.args.other r (record { inner = c.load_linked.new.seat; base = r.base; progress = r.progress }) _ c.requires.seat c.requires.other c.take_over.ensures.taken c.take_over.ensures.view c.load_linked.ensures.seat c.load_linked.ensures.view refl refl).1

pub returns-else-seat-gt0-clause-seat : goal.returns-else-seat-gt0-clause-seat
returns-else-seat-gt0-clause-seat c = let low = c.if-seat-gt0.false in
    (settled_blank c.args.self.now c.args.seat.now c.args.other c.take_over.new.seat c.requires.seat c.requires.other c.take_over.ensures.taken c.take_over.ensures.view (omega (arith, low))).0

pub returns-else-seat-gt0-clause-meets : goal.returns-else-seat-gt0-clause-meets
returns-else-seat-gt0-clause-meets c = let low = c.if-seat-gt0.false in
    (settled_blank c.args.self.now c.args.seat.now c.args.other c.take_over.new.seat c.requires.seat c.requires.other c.take_over.ensures.taken c.take_over.ensures.view (omega (arith, low))).1
