use Rattle.std.proofs.Common.{◌≡◌, ℕ, List, ◌+◌, ◌-◌, ◌≤◌, ◌∙◌, [], ◌∷◌, length, length-append, ap, sym, subst, arith}
use Rattle.queue_rule.specs.declared.view.View.{View}
use Rattle.queue_rule.specs.Views.{view_of, numbers_from, kept_back, split_off}
use Rattle.delete_queue.specs.Ties.{view}
use Rattle.delete_queue.specs.Making.{AreNewFrom, IsNew}
use Rattle.delete_queue.proofs.Making.{numbers_step, new_snoc}
use Rattle.delete_queue.proofs.queue.DeleteQueue.make.Goals as goal

pub split-inner-requires-clause-spares : goal.split-inner-requires-clause-spares
split-inner-requires-clause-spares c =
    let i = c.loop-number.invariant in let lt = c.loop-number-test.true in
    let step = numbers_step c.loop-number.number (c.args.seats - c.loop-number.number) (omega (arith, lt)) in
    let len : length (view c.loop-number.first).spares ≡ length (c.loop-number.number ∷ numbers_from (c.loop-number.number + 1) (c.args.seats - c.loop-number.number - 1)) = ap (λ (x : View). length x.spares) i.1 ∙ ap length step in
    omega (arith, len)

pub new_seat-requires : goal.new_seat-requires
new_seat-requires c =
    let i = c.loop-number.invariant in let lt = c.loop-number-test.true in let n = c.loop-number.number in
    let step = numbers_step n (c.args.seats - n) (omega (arith, lt)) in
    let first : view c.loop-number.first ≡ view_of c.args.seats 0 (n ∷ numbers_from (n + 1) (c.args.seats - n - 1)) [] = i.1 ∙ ap (λ (l : List ℕ). view_of c.args.seats 0 l []) step in
    let seats = i.5 in (
      c.split-inner.ensures.other.0,
      c.split-inner.ensures.other.1 ∙ (ap split_off first ∙ ap (λ (k : ℕ). view_of k n [] []) (sym seats)),
      omega (arith, lt, seats),
    )

pub loop-number-preserved : goal.loop-number-preserved
loop-number-preserved c =
    let i = c.loop-number.invariant in let lt = c.loop-number-test.true in let n = c.loop-number.number in
    let step = numbers_step n (c.args.seats - n) (omega (arith, lt)) in
    let first : view c.loop-number.first ≡ view_of c.args.seats 0 (n ∷ numbers_from (n + 1) (c.args.seats - n - 1)) [] = i.1 ∙ ap (λ (l : List ℕ). view_of c.args.seats 0 l []) step in
    let rest : c.args.seats - n - 1 ≡ c.args.seats - (n + 1) = omega arith in
    let q = c.in_ok-queue.queue in
    let items = c.push_reserved.ensures.items in
    let here : 1 + length c.loop-number.row.items ≡ n = let count = i.3 in omega (arith, count) in
    let len : length c.push_reserved.new.self.items ≡ length c.loop-number.row.items + 1 = ap length items ∙ length-append c.loop-number.row.items (c.new_seat.result ∷ []) in
    let count = i.3 in (
      c.split-inner.ensures.seat.0,
      c.split-inner.ensures.seat.1 ∙ (ap kept_back first ∙ ap (λ (k : ℕ). view_of c.args.seats 0 (numbers_from (n + 1) k) []) rest),
      subst (AreNewFrom q 1) (sym items) (new_snoc q 1 c.loop-number.row.items c.new_seat.result i.2 (subst (λ (m : ℕ). IsNew q m c.new_seat.result) (sym here) c.new_seat.ensures)),
      omega (arith, len, count),
      i.4,
      i.5,
      subst (λ (m : ℕ). c.args.seats ≤ m) (sym c.push_reserved.ensures.capacity) i.6,
    )
