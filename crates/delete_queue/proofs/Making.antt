-- The seats of a new queue.
use Rattle.std.proofs.Common.{◌≡◌, ℕ, suc, zero, ◌+◌, ◌-◌, ◌<◌, ◌≤◌, ◌⊎◌, inl, List, [], ◌∷◌, ◌++◌, map, length, sym, refl, ap, ◌∙◌, subst, arith}
use Rattle.queue_rule.specs.declared.view.View.{View}
use Rattle.queue_rule.specs.Views.{view_of, numbers_from}
use Rattle.queue_rule.specs.Told.{Sound}
use Rattle.queue_rule.proofs.Telling.{fresh_sound}
use Rattle.delete_queue.specs.declared.queue.DeleteQueue.{DeleteQueue}
use Rattle.delete_queue.specs.declared.seat.Seat.{Seat}
use Rattle.delete_queue.specs.declared.seat.Progress.{Progress}
use Rattle.delete_queue.specs.Ties.{IsLiveOf, TableSeat, view}
use Rattle.delete_queue.specs.Seats.{Shows, SawClosed, joined_of, number_at}
use Rattle.queue_rule.specs.Chain.{filled}
use Rattle.delete_queue.specs.Making.{IsNew, AreNewFrom}

pub numbers_step : (n m : ℕ) → 0 < m → numbers_from n m ≡ n ∷ numbers_from (n + 1) (m - 1)
numbers_step n zero lt = absurd (omega (arith, lt))
numbers_step n (suc m) lt = ap (λ (k : ℕ). n ∷ numbers_from (n + 1) k) (let is : m ≡ suc m - 1 = omega arith in is)

pub new_snoc : (q : DeleteQueue) (n : ℕ) (ss : List Seat) (s : Seat) → AreNewFrom q n ss → IsNew q (n + length ss) s → AreNewFrom q n (ss ++ s ∷ [])
new_snoc q n [] s h new = (subst (λ (m : ℕ). IsNew q m s) (let is : n + length {A = Seat} [] ≡ n = omega arith in is) new, tt)
new_snoc q n (x ∷ ss) s h new = (h.0, new_snoc q (n + 1) ss s h.1 (subst (λ (m : ℕ). IsNew q m s) (let is : n + length (x ∷ ss) ≡ n + 1 + length ss = omega arith in is) new))

pub fresh : (q : DeleteQueue) (inner : TableSeat) (n : ℕ) → IsLiveOf q inner → view inner ≡ view_of q.seats n [] [] → n < q.seats
    → IsNew q n (record { inner = inner; base = q.base; progress = record { number = n; used = 0; count = 0; last = 0; head = 0 } })
fresh q inner n live v low =
    let s : Seat = record { inner = inner; base = q.base; progress = record { number = n; used = 0; count = 0; last = 0; head = 0 } } in
    let p : Progress = s.progress in
    let is = view_of q.seats n [] [] in record {
      seat = record {
        table = (live, subst Sound (sym v) (fresh_sound q.seats n [] low));
        base = refl;
        spares = ap (λ (x : View). x.spares) v;
        shows = subst (λ (x : View). Shows x p) (sym v) (record { number = refl; used = refl; count = refl; last = refl; head = inl (refl, refl) });
        kept_back = subst (λ (x : View). (filled x.own ≤ 16640) ⊎ SawClosed x) (sym v) (inl (omega arith));
      };
      number = ap (λ (x : View). x.number) v;
      own = ap (λ (x : View). x.own) v;
      seen = ap (λ (x : View). length x.seen) v;
      olds = ap (λ (x : View). map joined_of x.olds) v;
      last = ap (λ (x : View). number_at q.base (length x.seen) 0) v ∙ omega arith;
    }
