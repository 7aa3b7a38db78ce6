-- One seat takes the others over, and the log is the list.
use Rattle.std.proofs.Common.{◌≡◌, ℕ, suc, zero, ◌+◌, ◌-◌, ◌<◌, ◌≤◌, inl, inr, ⊎_elim, List, [], ◌∷◌, ◌++◌, map, length, slice_index, if◌then◌else◌, eqb, sym, refl, ap, ap₂, ◌∙◌, subst, arith, length-append}
use Rattle.std.proofs.lemmas.List.{length-map}
use mathlib.Core.Option.{some, some-injective, some-ne-none}
use lib.ListN.{get_elem?}
use Rattle.atomic_table.proofs.Lists.{at_longer}
use Rattle.ix_base.specs.Words.{head_kind, IsEntryWords}
use Rattle.queue_rule.specs.declared.view.Own.{Own}
use Rattle.queue_rule.specs.declared.view.Old.{Old}
use Rattle.queue_rule.specs.Lists.{Each, last_or}
use Rattle.queue_rule.specs.Views.{Knows as KnowsWord}
use Rattle.ix_base.proofs.EntryLaws.{IsEntryWords-not_empty}
use Rattle.queue_rule.specs.Chain.{ChainEntry, own, own_from}
use Rattle.queue_rule.specs.Told.{Whole}
use Rattle.queue_rule.proofs.Lists.{all_more, at_behind}
use Rattle.queue_rule.proofs.Entries.{each_at, at_of, last_entry}
use Rattle.delete_queue.specs.declared.queue.DeleteQueue.{DeleteQueue}
use Rattle.delete_queue.specs.declared.seat.Seat.{Seat}
use Rattle.delete_queue.specs.declared.copy.Room.{Room}
use Rattle.delete_queue.specs.declared.log.QueueLog.{QueueLog}
use Rattle.delete_queue.specs.Seats.{IsSeatOf, Extends, Learns, Meets, Joined, Knows, joined_of, the_view, number_of, own_of, olds_of, seen_of, base_of, seats_of, last_of, number_at}
use Rattle.delete_queue.specs.Copying.{CopiedAll}
use Rattle.delete_queue.specs.Log.{Logged, own_in, HoldsList, TakesIn, HasAllOf, IsLogOf, entries_of, last_head_or, last_number}
use Rattle.delete_queue.proofs.Copying.{knows_later, entry_words_are, seen_within}
use Rattle.delete_queue.specs.Cuts.{pieces_from}
use Rattle.delete_queue.proofs.Laws.{extends_on}
use Rattle.delete_queue.proofs.Growing.{grown_same}
use Rattle.delete_queue.proofs.Fields.{knows_none}

pub each_from : {A : Type 0} (P : A → Type 0) (l : List A) → ((j : ℕ) (a : A) → get_elem? l j ≡ some a → P a) → Each P l
each_from P [] h = tt
each_from P (x ∷ l) h = (h 0 x refl, each_from P l (λ j a e. h (suc j) a e))

pub takes_itself : (q : DeleteQueue) (s : Seat) → IsSeatOf q s → TakesIn s s
takes_itself q s h = record {
  extends = (grown_same q s h).extends;
  own = inl (refl, refl);
  olds = each_from (λ (j : Joined). HoldsList s j.number j.own) (olds_of s) (λ i j e. inr (i, e));
}

holds_met : (s o t : Seat) (n : ℕ) (os : List Own) → Meets s o t → HoldsList s n os → HoldsList t n os
holds_met s o t n os m h = ⊎_elim (λ (mine : (number_of s ≡ n) × (own_of s ≡ os)). inl (m.number ∙ mine.0, m.own ∙ mine.1))
    (λ (old : (i : ℕ) × (get_elem? (olds_of s) i ≡ some (record { number = n; own = os }))). inr (old.0, ap (λ (l : List Joined). get_elem? l old.0) m.olds ∙ at_longer (olds_of s) _ old.0 _ old.1)) h

pub takes_met : (s o t r : Seat) → Meets s o t → TakesIn s r → TakesIn t r
takes_met s o t r m h = record {
  extends = extends_on r s t h.extends m.mine;
  own = holds_met s o t (number_of r) (own_of r) m h.own;
  olds = all_more (λ (j : Joined). HoldsList s j.number j.own) (λ (j : Joined). HoldsList t j.number j.own) (olds_of r) (λ j k. holds_met s o t j.number j.own m k) h.olds;
}

pub takes_other : (s o t : Seat) → Meets s o t → TakesIn t o
takes_other s o t m = let joined : Joined = record { number = number_of o; own = own_of o } in record {
  extends = m.theirs;
  own = let r = at_behind (olds_of s) (joined ∷ olds_of o) 0 joined refl in inr (r.0, ap (λ (l : List Joined). get_elem? l r.0) m.olds ∙ r.1);
  olds = each_from (λ (j : Joined). HoldsList t j.number j.own) (olds_of o) (λ i j e. let r = at_behind (olds_of s) (joined ∷ olds_of o) (suc i) j e in inr (r.0, ap (λ (l : List Joined). get_elem? l r.0) m.olds ∙ r.1));
}

holds_later : (t u : Seat) (n : ℕ) (os : List Own) → Learns t u → HoldsList t n os → HoldsList u n os
holds_later t u n os up h = ⊎_elim (λ (mine : (number_of t ≡ n) × (own_of t ≡ os)). inl (up.grows.number ∙ mine.0, up.own ∙ mine.1))
    (λ (old : (i : ℕ) × (get_elem? (olds_of t) i ≡ some (record { number = n; own = os }))). inr (old.0, ap (λ (l : List Joined). get_elem? l old.0) up.grows.olds ∙ old.1)) h

pub takes_later : (s t u : Seat) → Learns t u → TakesIn t s → TakesIn u s
takes_later s t u up h = record {
  extends = extends_on s t u h.extends up.grows.extends;
  own = holds_later t u (number_of s) (own_of s) up h.own;
  olds = all_more (λ (j : Joined). HoldsList t j.number j.own) (λ (j : Joined). HoldsList u j.number j.own) (olds_of s) (λ j k. holds_later t u j.number j.own up k) h.olds;
}

-- ---- the list

abbrev pub logged : ChainEntry → Logged
logged e = record { seat = e.seat; words = e.words }

own_logged : (i p : ℕ) (es : List ChainEntry) → own_in i p (map logged es) ≡ own_from i p es
own_logged i p [] = refl
own_logged i p (e ∷ es) = ap (λ (l : List Own). if eqb e.seat i then own p e.words ∷ l else l) (own_logged i (p + 1) es)

words_logged : (es : List ChainEntry) → map (λ (e : Logged). e.words) (map logged es) ≡ map (λ (e : ChainEntry). e.words) es
words_logged [] = refl
words_logged (e ∷ es) = ap (λ (l : List (List ℕ)). e.words ∷ l) (words_logged es)

logged_at : (es : List ChainEntry) (i : ℕ) (x : Logged) → get_elem? (map logged es) i ≡ some x → (e : ChainEntry) × (get_elem? es i ≡ some e) × (logged e ≡ x)
logged_at [] i x h = absurd (some-ne-none x (sym h))
logged_at (e ∷ es) zero x h = (e, refl, some-injective (logged e) x h)
logged_at (e ∷ es) (suc i) x h = logged_at es i x h

words_at : (es : List ChainEntry) (i : ℕ) (e : ChainEntry) → get_elem? es i ≡ some e → get_elem? (map (λ (y : ChainEntry). y.words) es) i ≡ some e.words
words_at [] i e h = absurd (some-ne-none e (sym h))
words_at (x ∷ es) zero e h = ap (λ (y : ChainEntry). some y.words) (some-injective x e h)
words_at (x ∷ es) (suc i) e h = words_at es i e h

some_at : (es : List ChainEntry) (i : ℕ) → i < length es → (e : ChainEntry) × (get_elem? es i ≡ some e)
some_at [] i lt = absurd (omega (arith, lt))
some_at (x ∷ es) zero lt = (x, refl)
some_at (x ∷ es) (suc i) lt = some_at es i (omega (arith, lt))

old_at : (os : List Old) (i : ℕ) (j : Joined) → get_elem? (map joined_of os) i ≡ some j → (o : Old) × (get_elem? os i ≡ some o) × (joined_of o ≡ j)
old_at [] i j h = absurd (some-ne-none j (sym h))
old_at (x ∷ os) zero j h = (x, refl, some-injective (joined_of x) j h)
old_at (x ∷ os) (suc i) j h = old_at os i j h

held_is : (t : Seat) (w : Whole (the_view t)) (n : ℕ) (os : List Own) → HoldsList t n os → os ≡ own_in n 1 (map logged w.entries)
held_is t w n os h = ⊎_elim
    (λ (mine : (number_of t ≡ n) × (own_of t ≡ os)). sym mine.1 ∙ (w.owns ∙ (ap (λ (i : ℕ). own_from i 1 w.entries) mine.0 ∙ sym (own_logged n 1 w.entries))))
    (λ (old : (i : ℕ) × (get_elem? (olds_of t) i ≡ some (record { number = n; own = os }))).
    let o = old_at (the_view t).olds old.0 (record { number = n; own = os }) old.1 in
    let is = each_at (λ (x : Old). x.own ≡ own_from x.number 1 w.entries) (the_view t).olds w.olds old.0 o.0 o.1 in
    sym (ap (λ (j : Joined). j.own) o.2) ∙ (is ∙ (ap (λ (j : Joined). own_from j.number 1 w.entries) o.2 ∙ sym (own_logged n 1 w.entries)))) h

seen_all : (s t : Seat) (w : Whole (the_view t)) → Extends s t → seen_of s ≤ length (map logged w.entries)
seen_all s t w up =
    let len : length (the_view t).seen ≡ seen_of s + length up.seen.0 = ap length up.seen.1 ∙ length-append (the_view s).seen up.seen.0 in
    let all : length w.entries ≡ length (the_view t).seen = sym (length-map w.entries (λ (e : ChainEntry). e.at)) ∙ ap length w.seen in
    let same = length-map w.entries logged in omega (arith, len, all, same)

agreed : (t : Seat) (w : Whole (the_view t)) (ps : List (List ℕ)) → ps ≡ map (λ (e : ChainEntry). e.words) w.entries → (place : ℕ) (words : List ℕ) → Knows t place words → get_elem? ps (place - 1) ≡ some words
agreed t w ps is place words k =
    let v = the_view t in
    let some_place = k.entry in
    let i : ℕ = place - 1 in
    let at : i + 1 ≡ place = omega (arith, some_place) in
    let within = seen_within (0 ∷ v.seen) place k.address k.seen in
    let all : length w.entries ≡ length v.seen = sym (length-map w.entries (λ (e : ChainEntry). e.at)) ∙ ap length w.seen in
    let e = some_at w.entries i (omega (arith, at, within, all)) in
    let same = entry_words_are t w i words e.0 (subst (λ (n : ℕ). Knows t n words) (sym at) k) e.1 in
    ap (λ (l : List (List ℕ)). get_elem? l i) is ∙ (words_at w.entries i e.0 e.1 ∙ ap some (sym same))

has_all : (t s : Seat) (w : Whole (the_view t)) (ps : List (List ℕ)) → ps ≡ map (λ (e : ChainEntry). e.words) w.entries → TakesIn t s → HasAllOf ps (map logged w.entries) s
has_all t s w ps is h = record {
  owns = held_is t w (number_of s) (own_of s) h.own;
  olds = all_more (λ (j : Joined). HoldsList t j.number j.own) (λ (j : Joined). j.own ≡ own_in j.number 1 (map logged w.entries)) (olds_of s) (λ j k. held_is t w j.number j.own k) h.olds;
  seen = seen_all s t w h.extends;
  agrees = λ place words k. agreed t w ps is place words (knows_later s t place words h.extends k);
}

last_head : (es : List ChainEntry) (j : ℕ) (e : ChainEntry) (h : ℕ) → get_elem? es j ≡ some e → j + 1 ≡ length es → last_head_or h (map (λ (x : ChainEntry). x.words) es) ≡ slice_index e.words 0
last_head [] j e h got len = absurd (some-ne-none e (sym got))
last_head (x ∷ []) zero e h got len = ap (λ (y : ChainEntry). slice_index y.words 0) (some-injective x e got)
last_head (x ∷ (y ∷ es)) zero e h got len = absurd (omega (arith, len))
last_head (x ∷ es) (suc j) e h got len = last_head es j e (slice_index x.words 0) got (omega (arith, len))

-- the seat that has seen all knows the head of the last entry
ends_at : (q : DeleteQueue) (u : Seat) (w : Whole (the_view u)) → IsSeatOf q u → u.progress.head ≡ last_head_or 0 (map (λ (x : ChainEntry). x.words) w.entries)
ends_at q u w h =
    let v = the_view u in
    ⊎_elim
    (λ (nothing : w.entries ≡ []). let unseen : v.seen ≡ [] = sym w.seen ∙ ap (map at_of) nothing in
    ⊎_elim (λ (z : (v.seen ≡ []) × (u.progress.head ≡ 0)). z.1 ∙ ap (λ (l : List ChainEntry). last_head_or 0 (map (λ (x : ChainEntry). x.words) l)) (sym nothing))
    (λ k. absurd (knows_none v (last_or 0 v.seen + 1) u.progress.head (h.table.1.blank (ap length unseen)) k)) h.shows.head)
    (λ (t : (e : ChainEntry) × (j : ℕ) × (get_elem? w.entries j ≡ some e) × (j + 1 ≡ length w.entries) × (last_or 0 (map at_of w.entries) ≡ e.at)).
    let e = t.0 in
    let last : last_or 0 v.seen ≡ e.at = ap (last_or 0) (sym w.seen) ∙ t.4 in
    let some_seen : length w.entries ≡ length v.seen = sym (length-map w.entries at_of) ∙ ap length w.seen in
    let many = t.3 in
    let lt = IsEntryWords-not_empty e.words (w.grammar t.1 e t.2) in
    ⊎_elim (λ (z : (v.seen ≡ []) × (u.progress.head ≡ 0)). let none_seen : length v.seen ≡ 0 = ap length z.0 in absurd (omega (arith, many, some_seen, none_seen)))
    (λ k. w.words t.1 e 0 u.progress.head t.2 lt (subst (λ (a : ℕ). KnowsWord v a u.progress.head) (let r : last_or 0 v.seen + 1 ≡ e.at + 1 + 0 = omega (arith, last) in r) k) ∙ sym (last_head w.entries t.1 e 0 t.2 t.3)) h.shows.head)
    (last_entry w.entries 0)

last_is_last : (q : DeleteQueue) (u : Seat) (w : Whole (the_view u)) (ps : List (List ℕ)) → IsSeatOf q u → ps ≡ map (λ (e : ChainEntry). e.words) w.entries → last_of u ≡ last_number (base_of q) ps
last_is_last q u w ps h is =
    let count : seen_of u ≡ length ps = ap length (sym w.seen) ∙ (length-map w.entries at_of ∙ (sym (length-map w.entries (λ (e : ChainEntry). e.words)) ∙ ap length (sym is))) in
    let head : u.progress.head ≡ last_head_or 0 ps = ends_at q u w h ∙ ap (last_head_or 0) (sym is) in
    ap (λ (b : ℕ). number_at b (seen_of u) u.progress.head) h.base ∙ ap₂ (λ (n x : ℕ). number_at q.base n x) count head

-- the seat that took all others over has copied the list
pub is_log : (q : DeleteQueue) (t u : Seat) (seats : List Seat) (room : Room) (log : QueueLog) → IsSeatOf q u → Each (TakesIn t) seats → Learns t u → CopiedAll u room
    → log.base ≡ base_of q → log.ends.items ≡ room.ends.items → log.words.items ≡ room.words.items → IsLogOf q seats log
is_log q t u seats room log h taken up all base ends words =
    let w = all.whole in
    let list = map logged w.entries in
    let pieces : entries_of log ≡ map (λ (e : ChainEntry). e.words) w.entries = ap₂ (λ (x y : List ℕ). pieces_from 0 x y) ends words ∙ all.words in
    let seats_are = h.table.0.2 in
    let many = q.many in record {
      base = base;
      list = list;
      words = pieces ∙ sym (words_logged w.entries);
      numbers = each_from (λ (e : Logged). e.seat < seats_of q) list (λ i x got. let e = logged_at w.entries i x got in let low = (w.seats i e.0 e.1).0 in
          subst (λ (y : Logged). y.seat < seats_of q) e.2 (omega (arith, low, seats_are, many)));
      grammar = each_from (λ (e : Logged). IsEntryWords e.words) list (λ i x got. let e = logged_at w.entries i x got in subst (λ (y : Logged). IsEntryWords y.words) e.2 (w.grammar i e.0 e.1));
      closes = λ i x got more. let e = logged_at w.entries i x got in let len = length-map w.entries logged in
          subst (λ (y : Logged). head_kind (slice_index y.words 0) < 6) e.2 (w.opens i e.0 e.1 (omega (arith, more, len)));
      lasts = let end = last_is_last q u w (entries_of log) h pieces in all_more (TakesIn t) (λ (s : Seat). last_of s ≤ last_number (base_of q) (entries_of log)) seats
          (λ s k. subst (λ (n : ℕ). last_of s ≤ n) end (takes_later s t u up k).extends.last) taken;
      seats = all_more (TakesIn t) (HasAllOf (entries_of log) list) seats (λ s k. has_all u s w (entries_of log) pieces (takes_later s t u up k)) taken;
    }

pub each_parts : {A : Type 0} (P : A → Type 0) (xs ys : List A) → Each P (xs ++ ys) → Each P xs × Each P ys
each_parts P [] ys h = (tt, h)
each_parts P (x ∷ xs) ys h = let r = each_parts P xs ys h.1 in ((h.0, r.0), r.1)
