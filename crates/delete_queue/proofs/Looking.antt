-- Looking for an entry, and going along those seen.
use Rattle.std.proofs.Common.{◌≡◌, ℕ, suc, zero, ◌+◌, ◌<◌, ◌≤◌, inl, inr, List, [], ◌∷◌, ◌++◌, length, sym, refl, ap, ◌∙◌, subst, ⊎_elim, arith, length-append}
use mathlib.Core.Option.{some, some-injective}
use lib.ListN.{get_elem?}
use Rattle.atomic_table.proofs.Lists.{at_longer}
use Rattle.ix_base.specs.Words.{head_kind, word_count}
use Rattle.queue_rule.specs.declared.view.View.{View}
use Rattle.queue_rule.specs.declared.view.Loaded.{Loaded}
use Rattle.queue_rule.specs.Lists.{last_or}
use Rattle.queue_rule.specs.Chain.{start, filled}
use Rattle.queue_rule.specs.Views.{Knows, with_loaded, sees, knows}
use Rattle.queue_rule.specs.Told.{MayRead, Sound}
use Rattle.queue_rule.proofs.Entries.{each_at}
use Rattle.delete_queue.specs.declared.queue.DeleteQueue.{DeleteQueue}
use Rattle.delete_queue.specs.declared.seat.Seat.{Seat}
use Rattle.delete_queue.specs.declared.seat.Place.{Place}
use Rattle.delete_queue.specs.declared.seat.Found.{Found}
use Rattle.delete_queue.specs.Ties.{IsTold}
use Rattle.delete_queue.specs.Seats.{IsSeatOf, IsFound, KnowsHead, HasSeen, the_view, seen_of, number_at, SawClosed}
use Rattle.delete_queue.specs.Linking.{GoesOn, Follows}
use Rattle.delete_queue.proofs.Fields.{found_next, knows_none, knows_it, follows_on, follows_sees, follows_knows, rereads_loaded, rereads_follows}

-- the last of the entries seen, counted from the 0 before them
pub at_count : (a : ℕ) (xs : List ℕ) → get_elem? (a ∷ xs) (length xs) ≡ some (last_or a xs)
at_count a [] = refl
at_count a (x ∷ xs) = at_count x xs

pub at_some : (l : List ℕ) (n : ℕ) → n < length l → (b : ℕ) × (get_elem? l n ≡ some b)
at_some [] n lt = absurd (omega (arith, lt))
at_some (x ∷ l) zero lt = (x, refl)
at_some (x ∷ l) (suc n) lt = at_some l n (omega (arith, lt))

-- no entry stands behind one that closes the queue
pub still_open : (v w : View) (found : ℕ) (rest l : List ℕ) → v.seen ≡ l → Sound v → Sound w → w.seen ≡ v.seen ++ found ∷ rest → ((a x : ℕ) → Knows v a x → Knows w a x) → SawClosed v → ⊥
still_open v w found rest [] e sv sw seen known closed = knows_none v (last_or 0 v.seen + 1) closed.0 (sv.blank (ap length e)) closed.1
still_open v w found rest (x ∷ xs) e sv sw seen known closed =
    let high = closed.2 in
    let all : w.seen ≡ (x ∷ xs) ++ found ∷ rest = seen ∙ ap (λ (l : List ℕ). l ++ found ∷ rest) e in
    let len : length w.seen ≡ length (x ∷ xs) + length (found ∷ rest) = ap length all ∙ length-append (x ∷ xs) (found ∷ rest) in
    let at : get_elem? w.seen (length xs) ≡ some (last_or x xs) = ap (λ l. get_elem? l (length xs)) all ∙ at_longer (x ∷ xs) (found ∷ rest) (length xs) (last_or x xs) (at_count x xs) in
    let last : last_or 0 v.seen ≡ last_or x xs = ap (last_or 0) e in
    let head : Knows w (last_or x xs + 1) closed.0 = subst (λ (a : ℕ). Knows w (a + 1) closed.0) last (known (last_or 0 v.seen + 1) closed.0 closed.1) in
    let low = sw.opens (length xs) (last_or x xs) closed.0 at (omega (arith, len)) head in
    omega (arith, high, low)

-- the load showed an entry
pub looked_on : (q : DeleteQueue) (s t : Seat) (l : Loaded) (found : ℕ) → IsSeatOf q s → IsTold q t.inner → the_view t ≡ sees (with_loaded (the_view s) l) found → found + 1 < start (the_view s).seats
    → t.base ≡ s.base → t.progress ≡ s.progress → GoesOn q t found
looked_on q s t l found h inner v room b p =
    let w = the_view s in
    let low = ⊎_elim (λ (le : filled w.own ≤ 16640). le)
    (λ (c : SawClosed w). absurd (still_open w (the_view t) found [] w.seen refl h.table.1 inner.1 (ap (λ (x : View). x.seen) v) (λ a x k. subst (λ (y : View). Knows y a x) (sym v) k) c)) h.kept_back in
    found_next q s t l found h low inner v room b p

pub look_follows : (v w : View) (l : Loaded) (found head : ℕ) → w ≡ knows (sees (with_loaded v l) found) (found + 1) head → Follows v w
look_follows v w l found head e = subst (Follows v) (sym e)
    (follows_on v (with_loaded v l) _ (rereads_follows v (with_loaded v l) (rereads_loaded v (with_loaded v l) l refl))
    (follows_on (with_loaded v l) (sees (with_loaded v l) found) _ (follows_sees (with_loaded v l) found) (follows_knows (sees (with_loaded v l) found) (found + 1) head)))

-- ---- an entry that was found

pub found_is : (s : Seat) (f : Found) (head : ℕ) → KnowsHead s f.place head → f.number ≡ number_at s.base f.place.at head → f.kind ≡ head_kind head → f.words ≡ word_count head → IsFound s f
found_is s f head k number kind words = record { head = head; known = k; number = number; kind = kind; words = words }

pub last_found : (q : DeleteQueue) (s : Seat) (p : Place) → IsSeatOf q s → 0 < seen_of s → HasSeen s p → p.at ≡ seen_of s → KnowsHead s p s.progress.head
last_found q s p h many seen last =
    let v = the_view s in
    let is : p.word ≡ last_or 0 v.seen = some-injective p.word (last_or 0 v.seen) (sym seen ∙ (ap (get_elem? (0 ∷ v.seen)) last ∙ at_count 0 v.seen)) in record {
      seen = seen;
      entry = omega (arith, many, last);
      known = subst (λ (a : ℕ). Knows v (a + 1) s.progress.head) (sym is)
          (⊎_elim (λ (z : (v.seen ≡ []) × (s.progress.head ≡ 0)). let none_seen : length v.seen ≡ 0 = ap length z.0 in absurd (omega (arith, none_seen, many))) (λ k. k) h.shows.head);
    }

-- ---- along the entries seen

pub may_next : (v : View) (n w : ℕ) → Sound v → get_elem? (0 ∷ v.seen) n ≡ some w → n < length v.seen → MayRead v w × (w < start v.seats)
may_next v zero w s e lt = let is : 0 ≡ w = some-injective 0 w e in (inl (sym is, lt), omega (arith, is))
may_next v (suc n) w s e lt = let in_table = (each_at (λ a. (0 < a) × (a + 1 < start v.seats)) v.seen s.inside n w e).1 in (inr (inl (n, omega (arith, lt), e)), omega (arith, in_table))

pub next_seen : (v : View) (n a x : ℕ) → Sound v → get_elem? (0 ∷ v.seen) n ≡ some a → n < length v.seen → Knows v a x → get_elem? v.seen n ≡ some x
next_seen v n a x s e lt k = let b = at_some v.seen n lt in b.1 ∙ ap some (sym (s.nexts n a b.0 x e b.1 k))

-- the entry behind a place, once its next word was loaded
pub behind : (v w : View) (n a x : ℕ) → Sound w → w ≡ knows v a x → get_elem? (0 ∷ v.seen) n ≡ some a → n < length v.seen → get_elem? w.seen n ≡ some x
behind v w n a x s is e lt =
    let seen : w.seen ≡ v.seen = ap (λ (y : View). y.seen) is in
    let len : length w.seen ≡ length v.seen = ap length seen in
    next_seen w n a x s (ap (λ (l : List ℕ). get_elem? (0 ∷ l) n) seen ∙ e) (omega (arith, lt, len)) (subst (λ (y : View). Knows y a x) (sym is) (knows_it v a x))

pub may_first : (v : View) (n x : ℕ) → Sound v → get_elem? v.seen n ≡ some x → MayRead v (x + 1) × (x + 1 < start v.seats)
may_first v n x s e = (inr (inr (n, x, 0, e, omega arith, inl refl)), (each_at (λ a. (0 < a) × (a + 1 < start v.seats)) v.seen s.inside n x e).1)

-- a word of an entry whose head is known
pub may_word : (v : View) (n x d h : ℕ) → Sound v → 0 < n → get_elem? (0 ∷ v.seen) n ≡ some x → Knows v (x + 1) h → d < word_count h → MayRead v (x + 1 + d) × (x + 1 + d < start v.seats)
may_word v zero x d h s some_n e k lt = absurd (omega (arith, some_n))
may_word v (suc n) x d h s some_n e k lt = let inside = s.fits n x h e k in (inr (inr (n, x, d, e, refl, inr (h, k, lt))), omega (arith, inside, lt))

-- entry n of those seen stands at place n + 1
pub at_place : (l : List ℕ) (n x : ℕ) → get_elem? l n ≡ some x → get_elem? (0 ∷ l) (n + 1) ≡ some x
at_place l n x e = subst (λ (m : ℕ). get_elem? (0 ∷ l) m ≡ some x) (let is : suc n ≡ n + 1 = omega arith in is) e
