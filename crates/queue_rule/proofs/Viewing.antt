-- The two loads keep the rule.
use Rattle.std.proofs.Common.{◌≡◌, ℕ, zero, suc, ◌+◌, ◌<◌, Bool, true, MatchBool, List, [], ◌∷◌, ◌++◌, append-nil, map, length, get_or, drop, sym, refl, ap, ◌∙◌, subst, inl, inr, ⊎_elim, arith, eq-eqb, ne_eqb, length-append}
use mathlib.Core.Option.{some, none, some-injective, some-ne-none}
use lib.ListN.{get_elem?}
use Rattle.atomic_table.proofs.Lists.{at_longer}
use Rattle.atomic_table.specs.Table.{State, step, keeps, stepped, Allows, Act, Valid, carried_after}
use Rattle.queue_rule.specs.declared.view.View.{View}
use Rattle.queue_rule.specs.declared.view.Loaded.{Loaded}
use Rattle.queue_rule.specs.declared.view.Old.{Old}
use Rattle.queue_rule.specs.Lists.{last_or}
use Rattle.queue_rule.specs.Chain.{IsNext, ChainEntry, start, Chained, own_from}
use Rattle.queue_rule.specs.Views.{Knows, known, loaded, with_loaded, sees, knows}
use Rattle.queue_rule.specs.Told.{MayRead, Whole}
use Rattle.ix_base.specs.Words.{word_count}
use Rattle.queue_rule.specs.Rule.{IsKnown, Fits, Kept, IsOld}
use Rattle.queue_rule.specs.Steps.{Looked, HasRead}
use Rattle.queue_rule.proofs.Lists.{at_inside, all_more}
use Rattle.queue_rule.proofs.Chain.{has_words, has_count}
use Rattle.queue_rule.proofs.Lists.{each_append}
use Rattle.queue_rule.proofs.Knowing.{in_longer, held_longer, olds_longer}
use Rattle.queue_rule.proofs.Entries.{at_of, chained_split, each_at, payload_stays}
use Rattle.queue_rule.proofs.Linking.{stays, found_more, Same}

-- the next word of an entry behind which one stands isn't 0
chained_next : (ws : List ℕ) (p : ℕ) (l : List ℕ) (j a : ℕ) → Chained ws p l → get_elem? l j ≡ some a → j + 1 < length l → 0 < get_or ws a 0
chained_next ws p [] j a h e more = absurd (some-ne-none a (sym e))
chained_next ws p (b ∷ []) j a h e more = absurd (omega (arith, more))
chained_next ws p (b ∷ (c ∷ l)) zero a h e more = let is : get_or ws a 0 ≡ c = ap (λ (n : ℕ). get_or ws n 0) (sym (some-injective b a e)) ∙ h.2.0 in let some_c = h.2.1 in omega (arith, is, some_c)
chained_next ws p (b ∷ (c ∷ l)) (suc j) a h e more = chained_next ws b (c ∷ l) j a h.2 e (omega (arith, more))

pub entry_seen : (es : List ChainEntry) (xs rest : List ℕ) (j a : ℕ) → map at_of es ≡ xs ++ rest → get_elem? xs j ≡ some a → (e : ChainEntry) × (get_elem? es j ≡ some e) × (e.at ≡ a)
entry_seen es [] rest j a h e = absurd (some-ne-none a (sym e))
entry_seen [] (x ∷ xs) rest j a h e = let n : 0 ≡ 1 + length (xs ++ rest) = ap length h ∙ omega arith in absurd (omega (arith, n))
entry_seen (y ∷ es) (x ∷ xs) rest zero a h e = (y, refl, ap (λ l. get_or l 0 0) h ∙ some-injective x a e)
entry_seen (y ∷ es) (x ∷ xs) rest (suc j) a h e = entry_seen es xs rest j a (ap (drop 1) h) e

-- the first next word isn't 0 once an entry was seen
first_next : (ws xs rest : List ℕ) → Chained ws 0 (xs ++ rest) → 0 < length xs → get_or ws 0 0 ≡ 0 → ⊥
first_next ws [] rest h l z = omega (arith, l)
first_next ws (x ∷ xs) rest h l z = let is = h.0 in let some_x = h.1 in omega (arith, is, some_x, z)

may_some : (v : View) (a : ℕ) → MayRead v a → length v.seen ≡ 0 → ⊥
may_some v a (inl h) z = let l = h.1 in omega (arith, l, z)
may_some v a (inr (inl h)) z = let l = h.1 in omega (arith, l, z)
may_some v a (inr (inr h)) z = let l = at_inside v.seen h.0 h.1 h.3 in omega (arith, l, z)

module _ (k : ℕ) where
  abbrev St : Type 0
  St = State (Unit {0}) View

  -- a word that may be read stays
  pub read_stays : (s : St) (r : Kept k s) (v : View) → Fits k s.words r.entries v → (a : ℕ) → MayRead v a → IsKnown s.words r.entries (known a (get_or s.words a 0))
  read_stays s r v f a (inl first) =
      let whole = subst (Chained s.words 0) f.seen r.chained in record {
        linked = inl first.0;
        present = refl;
        stays = λ _ zero_there. first_next s.words v.seen f.unseen whole first.1 (ap (λ (n : ℕ). get_or s.words n 0) (sym first.0) ∙ zero_there);
      }
  read_stays s r v f a (inr (inl next)) =
      let e = entry_seen r.entries v.seen f.unseen next.0 a f.seen next.2 in
      let place = e.2 in
      let whole = subst (Chained s.words 0) f.seen r.chained in
      let len = length-append v.seen f.unseen in
      let inside = next.1 in
      let some_word = chained_next s.words 0 (v.seen ++ f.unseen) next.0 a whole (at_longer v.seen f.unseen next.0 a next.2) (omega (arith, len, inside)) in record {
        linked = inr (next.0, e.0, e.1, omega (arith, place), omega (arith, place));
        present = refl;
        stays = λ _ zero_there. let z : ⊥ = omega (arith, some_word, zero_there) in z;
      }
  read_stays s r v f a (inr (inr word)) =
      let j = word.0 in let x = word.1 in let d = word.2 in
      let e = entry_seen r.entries v.seen f.unseen j x f.seen word.3 in
      let l = r.lies j e.0 e.1 in
      let place = e.2 in let is = word.4 in
      let inside : d < length e.0.words = ⊎_elim (λ (z : d ≡ 0). let g = has_words l in omega (arith, z, g))
      (λ (t : (h : ℕ) × Knows v (x + 1) h × (d < word_count h)).
      let known_h = each_at (IsKnown s.words r.entries) v.known f.known t.1.0 (known (x + 1) t.0) t.1.1 in
      let head : get_or e.0.words 0 0 ≡ t.0 = sym (l.spelled 0 (has_words l)) ∙ (ap (λ (n : ℕ). get_or s.words n 0) (omega (arith, place)) ∙ known_h.present) in
      subst (λ (n : ℕ). d < n) (sym (has_count l ∙ ap word_count head)) t.2) word.5 in record {
        linked = inr (j, e.0, e.1, omega (arith, place, is), omega (arith, place, is, inside));
        present = refl;
        stays = λ next _. payload_stays k s.words r.entries r.lies j d e.0 e.1 inside (subst (IsNext r.entries) (omega (arith, place, is)) next);
      }

  -- a load of a linked word
  pub reads : (slots id : ℕ) (v : View) (cs : List (ℕ × Unit {0})) (a : ℕ) → v.live ≡ true → MayRead v a → Allows (Kept k) slots id (v, cs) a (λ n. n) (HasRead (step slots a 0 0 none) (v, cs))
  reads slots id v cs a live may s r _ at _ = let f = r.fits id v at live in let x : ℕ = get_or s.words a 0 in (
    knows v a x,
    keeps,
    tt,
    stays k s r a id v (knows v a x) cs at refl record {
      number = f.number;
      seats = f.seats;
      owns = f.owns;
      held = held_longer r.entries v.known (v.known ++ known a x ∷ []) (length v.seen) (length v.seen) v.number (in_longer v.known (known a x ∷ [])) (omega arith) f.held;
      olds = olds_longer r.entries v.known (v.known ++ known a x ∷ []) (length v.seen) (length v.seen) v.olds (in_longer v.known (known a x ∷ [])) (omega arith) f.olds;
      blank = λ z. absurd (may_some v a may z);
      spares = f.spares;
      room = f.room;
      draft = f.draft;
      unseen = f.unseen;
      seen = f.seen;
      known = each_append (IsKnown s.words r.entries) v.known (known a x ∷ []) f.known (read_stays s r v f a may, tt);
    },
    refl,
  )

  fits_loaded : (ws : List ℕ) (es : List ChainEntry) (v : View) (l : Loaded) → Fits k ws es v → Fits k ws es (with_loaded v l)
  fits_loaded ws es v l f = record { number = f.number; seats = f.seats; owns = f.owns; held = f.held; olds = f.olds; blank = f.blank; spares = f.spares; room = f.room; draft = f.draft; unseen = f.unseen; seen = f.seen; known = f.known }

  whole : (s : St) (r : Kept k s) (v : View) (f : Fits k s.words r.entries v) → f.unseen ≡ [] → Whole v
  whole s r v f is = record {
    entries = r.entries;
    seen = f.seen ∙ (ap (λ l. v.seen ++ l) is ∙ append-nil v.seen);
    owns = f.owns;
    olds = all_more (IsOld r.entries v.known (length v.seen)) (λ (o : Old). o.own ≡ own_from o.number 1 r.entries) v.olds (λ o h. h.owns) f.olds;
    seats = λ j e got. let l = r.lies j e got in let low = l.seat in let place = l.at in let room = l.room in let seats = f.seats in (omega (arith, low, seats), omega (arith, place), omega (arith, place, room));
    grammar = λ j e got. (r.lies j e got).grammar;
    opens = r.opens;
    words = λ j e d x got lt read. sym (each_at (IsKnown s.words r.entries) v.known f.known read.0 (known (e.at + 1 + d) x) read.1).present ∙ (r.lies j e got).spelled d lt;
  }

  abbrev Found : St → ℕ → ℕ → View → List (ℕ × Unit {0}) → ℕ → Type 0
  Found s slots id v cs n = (w : View) × (b : Act (Unit {0})) × Valid s.homes cs b × Kept k (stepped s (last_or 0 v.seen) n id cs w b) × Looked (step slots (last_or 0 v.seen) 0 0 none) (v, cs) n (w, carried_after cs b)

  found : (s : St) (r : Kept k s) (slots id : ℕ) (v : View) (cs : List (ℕ × Unit {0})) → get_elem? s.views id ≡ some v → (f : Fits k s.words r.entries v) → (u : List ℕ) → f.unseen ≡ u
      → (n : ℕ) → n ≡ get_or s.words (last_or 0 v.seen) 0 → Found s slots id v cs n
  unfolding fits_loaded
  found s r slots id v cs at f [] is n n_is =
      let l = loaded (last_or 0 v.seen) n (v.loaded.count + 1) in
      let zero_there : n ≡ 0 = n_is ∙ chained_split s.words 0 v.seen [] (subst (Chained s.words 0) (f.seen ∙ ap (λ l. v.seen ++ l) is) r.chained) in (
        with_loaded v l,
        keeps,
        tt,
        subst (λ (m : ℕ). Kept k (stepped s (last_or 0 v.seen) m id cs (with_loaded v l) keeps)) (sym n_is) (stays k s r (last_or 0 v.seen) id v (with_loaded v l) cs at refl (fits_loaded s.words r.entries v l f)),
        subst (λ (b : Bool). MatchBool b (Same k (with_loaded v l) (with_loaded v l) cs × Whole (with_loaded v l)) (Same k (with_loaded v l) (sees (with_loaded v l) n) cs × (n + 1 < start v.seats))) (sym (eq-eqb n 0 zero_there)) (refl, whole s r (with_loaded v l) (fits_loaded s.words r.entries v l f) is),
      )
  found s r slots id v cs at f (a ∷ tail) is n n_is =
      let l = loaded (last_or 0 v.seen) n (v.loaded.count + 1) in
      let w = with_loaded v l in
      let more = found_more k s r w a tail (fits_loaded s.words r.entries v l f) is in
      let n_a : n ≡ a = n_is ∙ more.0 in
      let some_a = more.1 in
      let low = more.2 in
      let seats = f.seats in (
        sees w n,
        keeps,
        tt,
        subst (λ (m : ℕ). Kept k (stepped s (last_or 0 v.seen) m id cs (sees w n) keeps)) (sym n_is)
            (stays k s r (last_or 0 v.seen) id v (sees w n) cs at refl (subst (λ (m : ℕ). Fits k s.words r.entries (sees w m)) (sym n_a) more.3)),
        subst (λ (b : Bool). MatchBool b (Same k (sees w n) w cs × Whole w) (Same k (sees w n) (sees w n) cs × (n + 1 < start v.seats))) (sym (ne_eqb n 0 (λ z. let x : ⊥ = omega (arith, z, n_a, some_a) in x))) (refl, omega (arith, n_a, low, seats)),
      )

  pub looks : (slots id : ℕ) (v : View) (cs : List (ℕ × Unit {0})) → v.live ≡ true → Allows (Kept k) slots id (v, cs) (last_or 0 v.seen) (λ n. n) (Looked (step slots (last_or 0 v.seen) 0 0 none) (v, cs))
  looks slots id v cs live s r _ at _ = let f = r.fits id v at live in found s r slots id v cs at f f.unseen refl (get_or s.words (last_or 0 v.seen) 0) refl
