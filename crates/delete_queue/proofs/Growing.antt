-- A seat from one call to the next.
use Rattle.std.proofs.Common.{◌≡◌, ℕ, ◌+◌, ◌-◌, ◌≤◌, List, [], ◌∷◌, ◌++◌, map, length, Bool, true, false, if◌then◌else◌, sym, refl, ap, ◌∙◌, subst, ⊎_elim, arith, length-append, append-nil, le_refl}
use Rattle.queue_rule.specs.declared.view.Own.{Own}
use Rattle.queue_rule.specs.Lists.{Starts, last_or}
use Rattle.queue_rule.specs.Views.{Knows}
use Rattle.delete_queue.specs.declared.queue.DeleteQueue.{DeleteQueue}
use Rattle.delete_queue.specs.declared.seat.Seat.{Seat}
use Rattle.delete_queue.specs.Seats.{IsSeatOf, Extends, Grows, Learns, the_view, last_of, number_at, own_of, joined_of}
use Rattle.delete_queue.specs.Linking.{Follows}
use Rattle.delete_queue.proofs.Fields.{knows_none}

last_more : (b n m : ℕ) (c d : Bool) → n + 1 ≤ m → b + n - (if c then 1 else 0) ≤ b + m - (if d then 1 else 0)
last_more b n m true true le = omega (arith, le)
last_more b n m true false le = omega (arith, le)
last_more b n m false true le = omega (arith, le)
last_more b n m false false le = omega (arith, le)

-- two seats that have seen the same know the same head
same_head : (q : DeleteQueue) (s t : Seat) → IsSeatOf q s → IsSeatOf q t → (the_view t).seen ≡ (the_view s).seen → ((a x : ℕ) → Knows (the_view s) a x → Knows (the_view t) a x) → t.progress.head ≡ s.progress.head
same_head q s t h g seen known =
    let v = the_view s in let w = the_view t in
    ⊎_elim
    (λ (z : (v.seen ≡ []) × (s.progress.head ≡ 0)).
    ⊎_elim (λ (y : (w.seen ≡ []) × (t.progress.head ≡ 0)). y.1 ∙ sym z.1)
    (λ k. absurd (knows_none w (last_or 0 w.seen + 1) t.progress.head (g.table.1.blank (ap length (seen ∙ z.0))) k)) g.shows.head)
    (λ k. let here : Knows w (last_or 0 w.seen + 1) s.progress.head = subst (λ (l : List ℕ). Knows w (last_or 0 l + 1) s.progress.head) (sym seen) (known (last_or 0 v.seen + 1) s.progress.head k) in
    ⊎_elim (λ (y : (w.seen ≡ []) × (t.progress.head ≡ 0)). absurd (knows_none w (last_or 0 w.seen + 1) s.progress.head (g.table.1.blank (ap length y.0)) here))
    (λ l. g.table.1.agree (last_or 0 w.seen + 1) t.progress.head s.progress.head l here) g.shows.head) h.shows.head

last_grows : (q : DeleteQueue) (s t : Seat) → IsSeatOf q s → IsSeatOf q t → (rest : List ℕ) → (the_view t).seen ≡ (the_view s).seen ++ rest → ((a x : ℕ) → Knows (the_view s) a x → Knows (the_view t) a x) → last_of s ≤ last_of t
last_grows q s t h g [] e known =
    let seen : (the_view t).seen ≡ (the_view s).seen = e ∙ append-nil (the_view s).seen in
    let base : t.base ≡ s.base = g.base ∙ sym h.base in
    let same : last_of t ≡ last_of s = ap (λ (b : ℕ). number_at b (length (the_view t).seen) t.progress.head) base
    ∙ (ap (λ (l : List ℕ). number_at s.base (length l) t.progress.head) seen ∙ ap (λ (x : ℕ). number_at s.base (length (the_view s).seen) x) (same_head q s t h g seen known)) in
    subst (λ (n : ℕ). last_of s ≤ n) (sym same) (le_refl (last_of s))
last_grows q s t h g (x ∷ rest) e known =
    let base : s.base ≡ t.base = h.base ∙ sym g.base in
    let len : length (the_view t).seen ≡ length (the_view s).seen + length (x ∷ rest) = ap length e ∙ length-append (the_view s).seen (x ∷ rest) in
    subst (λ (b : ℕ). number_at b (length (the_view s).seen) s.progress.head ≤ last_of t) (sym base)
    (last_more t.base (length (the_view s).seen) (length (the_view t).seen) _ _ (omega (arith, len)))

pub extended : (q : DeleteQueue) (s t : Seat) → IsSeatOf q s → IsSeatOf q t → Starts (the_view t).seen (the_view s).seen → ((a x : ℕ) → Knows (the_view s) a x → Knows (the_view t) a x) → Extends s t
extended q s t h g seen known = record {
  base = g.base ∙ sym h.base;
  seen = seen;
  known = known;
  last = last_grows q s t h g seen.0 seen.1 known;
}

pub grown : (q : DeleteQueue) (s t : Seat) (more : List Own) → IsSeatOf q s → IsSeatOf q t → Follows (the_view s) (the_view t) → own_of t ≡ own_of s ++ more → Grows s t
grown q s t more h g f own = record {
  extends = extended q s t h g f.seen f.known;
  number = f.number;
  olds = ap (map joined_of) f.olds;
  own = (more, own);
}

pub learnt : (q : DeleteQueue) (s t : Seat) → IsSeatOf q s → IsSeatOf q t → Follows (the_view s) (the_view t) → own_of t ≡ own_of s → Learns s t
learnt q s t h g f own = record {
  grows = grown q s t [] h g f (own ∙ sym (append-nil (own_of s)));
  own = own;
}

-- after a call that linked an entry, or none
pub grown_by : (q : DeleteQueue) (s t : Seat) (o : Own) → IsSeatOf q s → IsSeatOf q t → Follows (the_view s) (the_view t) → own_of t ≡ own_of s ++ o ∷ [] → Grows s t
grown_by q s t o h g f own = grown q s t (o ∷ []) h g f own

pub grown_none : (q : DeleteQueue) (s t : Seat) → IsSeatOf q s → IsSeatOf q t → Follows (the_view s) (the_view t) → own_of t ≡ own_of s → Grows s t
grown_none q s t h g f own = (learnt q s t h g f own).grows

pub grown_same : (q : DeleteQueue) (s : Seat) → IsSeatOf q s → Grows s s
grown_same q s h = grown_none q s s h h (record { seen = ([], sym (append-nil (the_view s).seen)); known = λ a x k. k; number = refl; olds = refl }) refl
