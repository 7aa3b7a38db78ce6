use Rattle.std.proofs.Common.{◌≡◌, ◌+◌, ℕ, ◌∙◌, sym, refl, subst, arith}
use Rattle.frozen_packet.specs.declared.updates.Updates.{Updates}
use Rattle.delete_queue.specs.Seats.{Knows, base_of}
use Rattle.delete_queue.proofs.Laws.{learns_on}
use Rattle.delete_queue.proofs.Numbers.{seen_inside}
use Rattle.delete_slice.specs.Taken.{TakesPart, TakesSlice, TakesSome}
use Rattle.delete_slice.proofs.Parts.{takes_none, parts_chain, parts_stay}
use Rattle.delete_slice.proofs.Gathering.{gathered_ok, gathered_err}
use Rattle.delete_slice.proofs.Words.{on_err}
use Rattle.delete_slice.proofs.Reading.{learns_same}
use Rattle.delete_slice.proofs.slice.Slice.apply.Goals as goal

pub loop-place-init : goal.loop-place-init
loop-place-init c =
    let s = c.args.seat.now in let slice = c.requires.slice in
    (c.requires.seat, learns_same s, refl, slice.from, slice.order, takes_none (Knows s) (base_of c.args.queue.now) c.args.self.now.from.at c.args.updates.now c.requires.updates)

pub take_next-requires-clause-place : goal.take_next-requires-clause-place
take_next-requires-clause-place c =
    let i = c.loop-place.invariant in let seen = i.2 in
    let inside = seen_inside c.args.seat.now c.args.self.now.to c.requires.slice.to in let lt = c.loop-place-test.true in
    (i.3, omega (arith, inside, lt, seen))

pub loop-place-preserved : goal.loop-place-preserved
loop-place-preserved c =
    let i = c.loop-place.invariant in let q = c.args.queue.now in let from = c.args.self.now.from.at in
    let before = c.loop-place.seat in let after = c.take_next.new.seat in let place = c.loop-place.place.at in
    let old = c.args.updates.now in let mid = c.loop-place.updates in let new = c.take_next.new.updates in
    let next = c.in_ok-place.ensures.next in let lt = c.loop-place-test.true in let at = next.1 in (
      c.take_next.ensures.seat,
      learns_on c.args.seat.now before after i.1 c.take_next.ensures.learns,
      c.take_next.ensures.seen ∙ i.2,
      next.0,
      omega (arith, lt, at),
      subst (λ (p : ℕ). TakesPart (Knows after) (base_of q) from p old new) (sym at)
          (parts_chain (Knows after) (base_of q) from place (place + 1) old mid new
          (parts_stay before after (base_of q) from place old mid c.take_next.ensures.learns.grows.extends i.5) c.in_ok-place.ensures.taken),
    )

pub returns-in_err-place-clause-err : goal.returns-in_err-place-clause-err
returns-in_err-place-clause-err c =
    let i = c.loop-place.invariant in let q = c.args.queue.now in let slice = c.args.self.now in
    let after = c.take_next.new.seat in let place = c.loop-place.place.at in let old = c.args.updates.now in let new = c.take_next.new.updates in
    let stays = parts_stay c.loop-place.seat after (base_of q) slice.from.at place old c.loop-place.updates c.take_next.ensures.learns.grows.extends i.5 in
    let prefix : TakesSome q after slice old new = (place, i.4, subst (λ (u : Updates). TakesPart (Knows after) (base_of q) slice.from.at place old u) (sym c.in_err-place.ensures.err) stays) in
    on_err _ (TakesSome q after slice old new) prefix

pub returns-clause-ok : goal.returns-clause-ok
returns-clause-ok c =
    let i = c.loop-place.invariant in let ge = c.loop-place-test.false in let le = i.4 in let s = c.loop-place.seat in
    let part : TakesSlice c.args.queue.now s c.args.self.now c.args.updates.now c.loop-place.updates =
    subst (λ (p : ℕ). TakesPart (Knows s) (base_of c.args.queue.now) c.args.self.now.from.at p c.args.updates.now c.loop-place.updates)
    (let e : c.loop-place.place.at ≡ c.args.self.now.to.at = omega (arith, ge, le) in e) i.5 in
    gathered_ok c.gather.result (Knows s) (base_of c.args.queue.now) c.args.self.now.from.at c.args.self.now.to.at c.args.updates.now c.loop-place.updates c.gather.new.self part c.gather.ensures.same c.gather.ensures.numbers

pub returns-clause-err : goal.returns-clause-err
returns-clause-err c =
    let i = c.loop-place.invariant in let s = c.loop-place.seat in
    gathered_err c.gather.result (λ (u : Updates). TakesSome c.args.queue.now s c.args.self.now c.args.updates.now u) c.loop-place.updates c.gather.new.self (c.loop-place.place.at, i.4, i.5) c.gather.ensures.err
