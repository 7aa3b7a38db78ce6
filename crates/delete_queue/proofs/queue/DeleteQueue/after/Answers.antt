use Rattle.std.proofs.Common.{◌≡◌, ◌+◌, ◌∙◌, length, ap, sym, refl, subst, arith}
use mathlib.Core.Option.{some}
use lib.ListN.{get_elem?}
use Rattle.queue_rule.specs.declared.view.View.{View}
use Rattle.queue_rule.specs.Views.{Knows}
use Rattle.delete_queue.specs.declared.seat.Place.{Place}
use Rattle.delete_queue.specs.declared.seat.Seat.{Seat}
use Rattle.delete_queue.specs.Seats.{the_view, KnowsHead, number_at}
use Rattle.delete_queue.proofs.Fields.{knows_it, reread, rereads_on, rereads_knows, rereads_follows}
use Rattle.delete_queue.proofs.Growing.{learnt}
use Rattle.delete_queue.proofs.Looking.{may_next, behind, may_first, found_is, at_place}
use Rattle.delete_queue.proofs.queue.DeleteQueue.after.Goals as goal

pub load_linked-word-requires-clause-place : goal.load_linked-word-requires-clause-place
load_linked-word-requires-clause-place c = may_next (the_view c.args.seat.now) c.args.place.at c.args.place.word c.requires.seat.table.1 c.requires.place.0 c.requires.place.1

pub overflow_add-word : goal.overflow_add-word
overflow_add-word c =
    let w = c.load_linked-word.new.seat.me.0 in let x = c.load_linked-word.result in let told = c.load_linked-word.ensures.seat in
    let low = (may_first w c.args.place.at x told.1 (behind (the_view c.args.seat.now) w c.args.place.at c.args.place.word x told.1 c.load_linked-word.ensures.view c.requires.place.0 c.requires.place.1)).1 in
    let seats = told.0.2 in let many = c.args.self.now.many in let few = c.args.self.now.few.1 in omega (arith, low, seats, many, few)

pub load_linked-head-requires-clause-place : goal.load_linked-head-requires-clause-place
load_linked-head-requires-clause-place c =
    let w = c.load_linked-word.new.seat.me.0 in let x = c.load_linked-word.result in let told = c.load_linked-word.ensures.seat in
    may_first w c.args.place.at x told.1 (behind (the_view c.args.seat.now) w c.args.place.at c.args.place.word x told.1 c.load_linked-word.ensures.view c.requires.place.0 c.requires.place.1)

pub returns-clause-seat : goal.returns-clause-seat
returns-clause-seat c =
    let v = the_view c.args.seat.now in let w = c.load_linked-word.new.seat.me.0 in let u = c.load_linked-head.new.seat.me.0 in
    reread c.args.self.now c.args.seat.now (record { inner = c.load_linked-head.new.seat; base = c.args.seat.now.base; progress = c.args.seat.now.progress }) c.requires.seat c.load_linked-head.ensures.seat
    (rereads_on v w u (rereads_knows v w _ _ c.load_linked-word.ensures.view) (rereads_knows w u _ _ c.load_linked-head.ensures.view)) refl refl

pub returns-clause-learns : goal.returns-clause-learns
returns-clause-learns c =
    let v = the_view c.args.seat.now in let w = c.load_linked-word.new.seat.me.0 in let u = c.load_linked-head.new.seat.me.0 in
    let t : Seat = record { inner = c.load_linked-head.new.seat; base = c.args.seat.now.base; progress = c.args.seat.now.progress } in
    let r = rereads_on v w u (rereads_knows v w _ _ c.load_linked-word.ensures.view) (rereads_knows w u _ _ c.load_linked-head.ensures.view) in
    (learnt c.args.self.now c.args.seat.now t c.requires.seat (reread c.args.self.now c.args.seat.now t c.requires.seat c.load_linked-head.ensures.seat r refl refl) (rereads_follows v u r) r.own, ap length r.seen)

pub returns-clause-found : goal.returns-clause-found
returns-clause-found c =
    let v = the_view c.args.seat.now in let w = c.load_linked-word.new.seat.me.0 in let u = c.load_linked-head.new.seat.me.0 in
    let x = c.load_linked-word.result in let head = c.load_linked-head.result in let told = c.load_linked-word.ensures.seat in
    let t : Seat = record { inner = c.load_linked-head.new.seat; base = c.args.seat.now.base; progress = c.args.seat.now.progress } in
    let f = c.found_at.result in
    let p : Place = record { at = c.args.place.at + 1; word = x } in
    let at : get_elem? u.seen c.args.place.at ≡ some x = ap (λ (y : View). get_elem? y.seen c.args.place.at) c.load_linked-head.ensures.view ∙ behind v w c.args.place.at c.args.place.word x told.1 c.load_linked-word.ensures.view c.requires.place.0 c.requires.place.1 in
    let known : Knows u (x + 1) head = subst (λ (y : View). Knows y (x + 1) head) (sym c.load_linked-head.ensures.view) (knows_it w (x + 1) head) in
    let there : KnowsHead t p head = record { seen = at_place u.seen c.args.place.at x at; entry = omega arith; known = known } in
    found_is t f head (subst (λ (y : Place). KnowsHead t y head) (sym c.found_at.ensures.place) there) (c.found_at.ensures.number ∙ ap (λ (y : Place). number_at t.base y.at head) (sym c.found_at.ensures.place)) c.found_at.ensures.kind c.found_at.ensures.words
