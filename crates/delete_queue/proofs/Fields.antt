-- What a seat's fields say, from one moment to the next.
use Rattle.std.proofs.Common.{◌≡◌, ℕ, ◌+◌, ◌<◌, ◌≤◌, ◌⊎◌, inl, inr, List, [], ◌∷◌, ◌++◌, length, drop, slice_index, MatchBool, Bool, true, false, sym, refl, ap, ◌∙◌, subst, ⊎_elim, arith, length-append, append_assoc, append-nil}
use Rattle.std.proofs.lemmas.List.{length_push}
use mathlib.Core.Option.{some-ne-none}
use lib.ListN.{get_elem?}
use Rattle.atomic_table.proofs.Lists.{at_last, at_longer}
use Rattle.ix_base.specs.Words.{head_kind}
use Rattle.queue_rule.specs.declared.view.View.{View}
use Rattle.queue_rule.specs.declared.view.Own.{Own}
use Rattle.queue_rule.specs.declared.view.Loaded.{Loaded}
use Rattle.queue_rule.specs.Lists.{last_or}
use Rattle.queue_rule.specs.Chain.{start, filled, own}
use Rattle.queue_rule.specs.Views.{Knows, with_loaded, with_draft, links, sees, knows, known, known_from, draft_start}
use Rattle.queue_rule.specs.Told.{SawOpen, MayRead}
use Rattle.delete_queue.specs.declared.queue.DeleteQueue.{DeleteQueue}
use Rattle.delete_queue.specs.declared.seat.Seat.{Seat}
use Rattle.delete_queue.specs.declared.seat.Progress.{Progress}
use Rattle.delete_queue.specs.Ties.{IsTold}
use Rattle.delete_queue.specs.Seats.{IsSeatOf, Shows, the_view, used_of, SawClosed}
use Rattle.delete_queue.specs.Linking.{GoesOn, Came, Follows, Rereads, HasRoom}
use Rattle.ix_base.specs.Words.{IsEntryWords}
use Rattle.ix_base.proofs.EntryLaws.{IsEntryWords-not_empty}
use Rattle.queue_rule.proofs.Knowing.{in_longer, in_behind, known_at}
use Rattle.delete_queue.proofs.Lists.{last_snoc}

-- ---- known words

pub knows_none : (v : View) (a x : ℕ) → v.known ≡ [] → Knows v a x → ⊥
knows_none v a x e k = some-ne-none (known a x) (sym (ap (λ l. get_elem? l k.0) (sym e) ∙ k.1))

pub knows_it : (v : View) (a x : ℕ) → Knows (knows v a x) a x
knows_it v a x = (length v.known, at_last v.known (known a x) (length v.known) refl)

pub knows_more : (v : View) (a x b y : ℕ) → Knows v b y → Knows (knows v a x) b y
knows_more v a x b y k = (k.0, at_longer v.known (known a x ∷ []) k.0 (known b y) k.1)

-- ---- one view behind another

pub follows_same : (v w : View) → w.seen ≡ v.seen → w.known ≡ v.known → w.number ≡ v.number → w.olds ≡ v.olds → Follows v w
follows_same v w e k n o = record {
  seen = ([], e ∙ sym (append-nil v.seen));
  known = λ a x t. (t.0, ap (λ l. get_elem? l t.0) k ∙ t.1);
  number = n;
  olds = o;
}

pub follows_on : (u v w : View) → Follows u v → Follows v w → Follows u w
follows_on u v w f g = record {
  seen = (f.seen.0 ++ g.seen.0, g.seen.1 ∙ (ap (λ l. l ++ g.seen.0) f.seen.1 ∙ append_assoc u.seen f.seen.0 g.seen.0));
  known = λ a x t. g.known a x (f.known a x t);
  number = g.number ∙ f.number;
  olds = g.olds ∙ f.olds;
}

pub follows_knows : (v : View) (a x : ℕ) → Follows v (knows v a x)
follows_knows v a x = record {
  seen = ([], sym (append-nil v.seen));
  known = λ b y t. knows_more v a x b y t;
  number = refl;
  olds = refl;
}

pub follows_sees : (v : View) (a : ℕ) → Follows v (sees v a)
follows_sees v a = record {
  seen = (a ∷ [], refl);
  known = λ b y t. t;
  number = refl;
  olds = refl;
}

-- ---- what was seen of a closing entry

pub saw : (b : Bool) (q : DeleteQueue) (s : Seat) → IsSeatOf q s → MatchBool b (6 ≤ head_kind s.progress.head) (head_kind s.progress.head < 6)
    → MatchBool b (SawClosed (the_view s)) (SawOpen (the_view s) × (used_of s ≤ 16640))
saw true q s h high = ⊎_elim (λ (z : ((the_view s).seen ≡ []) × (s.progress.head ≡ 0)). let is = z.1 in absurd (omega (arith, is, high))) (λ k. (s.progress.head, k, high)) h.shows.head
saw false q s h low =
    let v = the_view s in
    let sound = h.table.1 in (
      ⊎_elim (λ (z : (v.seen ≡ []) × (s.progress.head ≡ 0)). inl z.0) (λ k. inr (s.progress.head, k, low)) h.shows.head,
      ⊎_elim (λ (le : filled v.own ≤ 16640). le)
          (λ (closed : SawClosed v). let high = closed.2 in
          ⊎_elim (λ (z : (v.seen ≡ []) × (s.progress.head ≡ 0)). absurd (knows_none v (last_or 0 v.seen + 1) closed.0 (sound.blank (ap length z.0)) closed.1))
          (λ k. let same = sound.agree (last_or 0 v.seen + 1) closed.0 s.progress.head closed.1 k in absurd (omega (arith, high, low, same))) h.shows.head)
          h.kept_back,
    )

-- ---- the draft alone changed

pub redrafted : (q : DeleteQueue) (s t : Seat) (xs : List ℕ) → IsSeatOf q s → IsTold q t.inner → the_view t ≡ with_draft (the_view s) xs → t.base ≡ s.base → t.progress ≡ s.progress → IsSeatOf q t
redrafted q s t xs h inner v b p = record {
  table = inner;
  base = b ∙ h.base;
  spares = ap (λ (x : View). x.spares) v ∙ h.spares;
  shows = subst (λ (x : View). Shows x t.progress) (sym v) (subst (λ (x : Progress). Shows (with_draft (the_view s) xs) x) (sym p) (record { number = h.shows.number; used = h.shows.used; count = h.shows.count; last = h.shows.last; head = h.shows.head }));
  kept_back = subst (λ (x : View). (filled x.own ≤ 16640) ⊎ SawClosed x) (sym v) h.kept_back;
}

-- ---- one entry more was seen

pub may_head : (q : DeleteQueue) (s : Seat) (found : ℕ) → GoesOn q s found → MayRead (the_view s) (found + 1)
may_head q s found g = inr (inr (length g.before, found, 0, ap (λ l. get_elem? l (length g.before)) g.ends ∙ at_last g.before found (length g.before) refl, omega arith, inl refl))

pub went_on : (q : DeleteQueue) (s t : Seat) (found : ℕ) → GoesOn q s found → IsTold q t.inner → the_view t ≡ knows (the_view s) (found + 1) t.progress.head → t.base ≡ s.base
    → t.progress.number ≡ s.progress.number → t.progress.used ≡ s.progress.used → t.progress.count ≡ s.progress.count + 1 → t.progress.last ≡ found → IsSeatOf q t
went_on q s t found g inner v b n u c l =
    let last_is : last_or 0 (the_view s).seen ≡ found = ap (last_or 0) g.ends ∙ last_snoc 0 found g.before in
    let w = knows (the_view s) (found + 1) t.progress.head in record {
      table = inner;
      base = b ∙ g.base;
      spares = ap (λ (x : View). x.spares) v ∙ g.spares;
      shows = subst (λ (x : View). Shows x t.progress) (sym v) (record {
        number = n ∙ g.number;
        used = u ∙ g.used;
        count = c ∙ g.count;
        last = l ∙ sym last_is;
        head = inr (subst (λ (a : ℕ). Knows w (a + 1) t.progress.head) (sym last_is) (knows_it (the_view s) (found + 1) t.progress.head));
      });
      kept_back = inl (subst (λ (x : View). filled x.own ≤ 16640) (sym v) g.kept_back);
    }

filled_snoc : (os : List Own) (o : Own) → filled (os ++ o ∷ []) ≡ filled os + (length o.words + 1)
filled_snoc [] o = omega arith
filled_snoc (x ∷ os) o = let h = filled_snoc os o in omega (arith, h)

-- a step showed the next entry, where the last one seen doesn't close the queue
pub found_next : (q : DeleteQueue) (s t : Seat) (l : Loaded) (found : ℕ) → IsSeatOf q s → used_of s ≤ 16640 → IsTold q t.inner → the_view t ≡ sees (with_loaded (the_view s) l) found
    → found + 1 < start (the_view s).seats → t.base ≡ s.base → t.progress ≡ s.progress → GoesOn q t found
found_next q s t l found h low inner v room b p =
    let w = the_view s in
    let count = h.shows.count in
    let seats : (the_view t).seats ≡ w.seats = ap (λ (x : View). x.seats) v in
    let more : length (w.seen ++ found ∷ []) ≡ length w.seen + 1 = length_push w.seen found in record {
      table = inner;
      base = b ∙ h.base;
      spares = ap (λ (x : View). x.spares) v ∙ h.spares;
      number = ap (λ (x : Progress). x.number) p ∙ (h.shows.number ∙ ap (λ (x : View). x.number) (sym v));
      used = ap (λ (x : Progress). x.used) p ∙ (h.shows.used ∙ ap (λ (x : View). filled x.own) (sym v));
      count = (let c = ap (λ (x : Progress). x.count) p in let r : t.progress.count + 1 ≡ length (w.seen ++ found ∷ []) = omega (arith, c, count, more) in r) ∙ ap (λ (x : View). length x.seen) (sym v);
      before = w.seen;
      ends = ap (λ (x : View). x.seen) v;
      room = omega (arith, seats, room);
      kept_back = subst (λ (x : View). filled x.own ≤ 16640) (sym v) low;
    }

-- the exchange failed and showed an entry
pub missed : (q : DeleteQueue) (s t : Seat) (found : ℕ) → IsSeatOf q s → used_of s ≤ 16640 → IsTold q t.inner → the_view t ≡ sees (the_view s) found → found + 1 < start (the_view s).seats → t.base ≡ s.base → t.progress ≡ s.progress → GoesOn q t found
missed q s t found = found_next q s t (the_view s).loaded found

-- the draft was linked
follows_links : (v : View) → Follows v (links v)
follows_links v = record {
  seen = (draft_start v ∷ [], refl);
  known = in_longer v.known (known_from (draft_start v + 1) (drop 1 v.draft));
  number = refl;
  olds = refl;
}

pub followed_links : (u v w : View) → Follows u v → w ≡ links v → Follows u w
followed_links u v w f e = subst (Follows u) (sym e) (follows_on u v (links v) f (follows_links v))

pub came_in : (q : DeleteQueue) (s t : Seat) (used : ℕ) (ws : List ℕ) → IsSeatOf q s → used ≡ used_of s → HasRoom used ws → IsEntryWords ws → (the_view s).draft ≡ 0 ∷ ws
    → IsTold q t.inner → the_view t ≡ links (the_view s) → t.base ≡ s.base → t.progress ≡ s.progress → Came q t (draft_start (the_view s)) ws
came_in q s t used ws h u room is d inner v b p =
    let w = the_view s in
    let some_word = IsEntryWords-not_empty ws is in
    let words : drop 1 w.draft ≡ ws = ap (drop 1) d in
    let snoc : filled (links w).own ≡ filled w.own + (length ws + 1) = filled_snoc w.own (own (length w.seen + 1) (drop 1 w.draft)) ∙ ap (λ (l : List ℕ). filled w.own + (length l + 1)) words in
    let same = h.shows.used in
    let count = h.shows.count in
    let more : length (links w).seen ≡ length w.seen + 1 = length-append w.seen (draft_start w ∷ []) in
    let now_used : filled (the_view t).own ≡ filled (links w).own = ap (λ (x : View). filled x.own) v in
    let at = in_behind w.known (known_from (draft_start w + 1) (drop 1 w.draft)) (draft_start w + 1 + 0) (slice_index (drop 1 w.draft) 0) (known_at (draft_start w + 1) (drop 1 w.draft) 0 (subst (λ (l : List ℕ). 0 < length l) (sym words) some_word)) in
    let plain : draft_start w + 1 + 0 ≡ draft_start w + 1 = omega arith in record {
      table = inner;
      base = b ∙ h.base;
      spares = ap (λ (x : View). x.spares) v ∙ h.spares;
      number = ap (λ (x : Progress). x.number) p ∙ (h.shows.number ∙ ap (λ (x : View). x.number) (sym v));
      used = let r : t.progress.used ≡ s.progress.used = ap (λ (x : Progress). x.used) p in omega (arith, r, same, snoc, now_used);
      count = (let c = ap (λ (x : Progress). x.count) p in let r : t.progress.count + 1 ≡ length (links w).seen = omega (arith, c, count, more) in r) ∙ ap (λ (x : View). length x.seen) (sym v);
      last = ap (λ (x : View). last_or 0 x.seen) v ∙ last_snoc 0 (draft_start w) w.seen;
      some_word = some_word;
      head = subst (λ (x : View). Knows x (draft_start w + 1) (slice_index ws 0)) (sym v)
          (subst (λ (l : List ℕ). Knows (links w) (draft_start w + 1) (slice_index l 0)) words (subst (λ (a : ℕ). Knows (links w) a (slice_index (drop 1 w.draft) 0)) plain at));
      kept_back = ⊎_elim (λ le. inl (omega (arith, le, now_used, snoc, u))) (λ high. inr high) room.kept_back;
    }

-- ---- words that were read again, or for the first time

pub rereads_on : (u v w : View) → Rereads u v → Rereads v w → Rereads u w
rereads_on u v w r t = record {
  number = t.number ∙ r.number;
  spares = t.spares ∙ r.spares;
  olds = t.olds ∙ r.olds;
  own = t.own ∙ r.own;
  seen = t.seen ∙ r.seen;
  known = λ a x k. t.known a x (r.known a x k);
}

pub rereads_same : (v : View) → Rereads v v
rereads_same v = record { number = refl; spares = refl; olds = refl; own = refl; seen = refl; known = λ a x k. k }

pub rereads_knows : (v w : View) (a x : ℕ) → w ≡ knows v a x → Rereads v w
rereads_knows v w a x e = subst (Rereads v) (sym e) (record { number = refl; spares = refl; olds = refl; own = refl; seen = refl; known = λ b y k. knows_more v a x b y k })

pub rereads_loaded : (v w : View) (l : Loaded) → w ≡ with_loaded v l → Rereads v w
rereads_loaded v w l e = subst (Rereads v) (sym e) (record { number = refl; spares = refl; olds = refl; own = refl; seen = refl; known = λ b y k. k })

pub rereads_follows : (v w : View) → Rereads v w → Follows v w
rereads_follows v w r = record { seen = ([], r.seen ∙ sym (append-nil v.seen)); known = r.known; number = r.number; olds = r.olds }

pub reread : (q : DeleteQueue) (s t : Seat) → IsSeatOf q s → IsTold q t.inner → Rereads (the_view s) (the_view t) → t.base ≡ s.base → t.progress ≡ s.progress → IsSeatOf q t
reread q s t h inner r b p =
    let v = the_view s in let w = the_view t in
    let longer : (x : ℕ) → Knows v (last_or 0 v.seen + 1) x → Knows w (last_or 0 w.seen + 1) x = λ x k. subst (λ (l : List ℕ). Knows w (last_or 0 l + 1) x) (sym r.seen) (r.known (last_or 0 v.seen + 1) x k) in record {
      table = inner;
      base = b ∙ h.base;
      spares = r.spares ∙ h.spares;
      shows = subst (λ (x : Progress). Shows w x) (sym p) (record {
        number = h.shows.number ∙ sym r.number;
        used = h.shows.used ∙ ap filled (sym r.own);
        count = h.shows.count ∙ ap length (sym r.seen);
        last = h.shows.last ∙ ap (last_or 0) (sym r.seen);
        head = ⊎_elim (λ z. inl (r.seen ∙ z.0, z.1)) (λ k. inr (longer s.progress.head k)) h.shows.head;
      });
      kept_back = ⊎_elim (λ le. inl (subst (λ (o : List Own). filled o ≤ 16640) (sym r.own) le)) (λ c. inr (c.0, longer c.0 c.1, c.2)) h.kept_back;
    }
