-- Splitting a seat, joining two, and the table at the start.
use Rattle.std.proofs.Common.{◌≡◌, ◌≢◌, ℕ, zero, suc, ◌+◌, ◌-◌, ◌<◌, ◌≤◌, ◌⊎◌, ltb, Bool, true, false, if◌then◌else◌, List, [], ◌∷◌, ◌++◌, map, length, get_or, drop, set, sym, refl, ap, ◌∙◌, subst, ap₂, ltb-true, ltb-false, inl, inr, ⊎_elim, true≢false, arith, eq-eqb, ne_eqb}
use Rattle.std.proofs.lemmas.List.{map-append}
use mathlib.Core.Option.{some, some-injective, some-ne-none}
use mathlib.Core.Logic.{dite}
use native.Mathlib.Decide.{ℕ_discrete}
use lib.ListN.{get_elem?}
use Rattle.atomic_table.specs.Table.{State, Splits, Joins, opening}
use Rattle.atomic_table.proofs.Lists.{at_set, at_snoc}
use Rattle.queue_rule.specs.declared.view.View.{View}
use Rattle.queue_rule.specs.declared.view.Old.{Old}
use Rattle.queue_rule.specs.Lists.{Each, times, Starts, longer}
use Rattle.queue_rule.specs.Chain.{ChainEntry, start, used, own_from, filled}
use Rattle.queue_rule.specs.Rule.{total, IsOld, IsKnown, Fits, Kept}
use Rattle.queue_rule.specs.Views.{numbers, numbers_from, newcomer, kept_back, split_off, old_of, joined, spent}
use Rattle.queue_rule.proofs.Lists.{total_set}
use Rattle.queue_rule.proofs.Drafting.{filled_own, live_numbers, times_append, fit_set, with_views}
use Rattle.queue_rule.proofs.Entries.{at_of}
use Rattle.queue_rule.proofs.Knowing.{in_longer, in_behind, held_longer, olds_longer}
use Rattle.queue_rule.proofs.Drafting.{no_entry}
use Rattle.queue_rule.proofs.Lists.{each_append}

total_append : (f : View → ℕ) (vs ws : List View) → total f (vs ++ ws) ≡ total f vs + total f ws
total_append f [] ws = omega arith
total_append f (v ∷ vs) ws = let h = total_append f vs ws in omega (arith, h)

not_live : (v u : View) → v ≡ u → v.live ≡ false → u.live ≡ true → ⊥
not_live v u e dead ok = true≢false (sym ok ∙ (ap (λ (x : View). x.live) (sym e) ∙ dead))

below_from : (n i m : ℕ) → n < i → times n (numbers_from i m) ≡ 0
below_from n i zero low = refl
below_from n i (suc m) low = let h = below_from n (i + 1) m (omega (arith, low)) in let t : times n (numbers_from i (suc m)) ≡ times n (numbers_from (i + 1) m) = ap (λ (b : Bool). (if b then 1 else 0) + times n (numbers_from (i + 1) m)) (ne_eqb i n (λ e. let z : ⊥ = omega (arith, e, low) in z)) ∙ omega arith in t ∙ h

times_from : (n i m : ℕ) → i ≤ n → n < i + m → times n (numbers_from i m) ≡ 1
times_from n i zero low high = absurd (omega (arith, low, high))
times_from n i (suc m) low high = dite (ℕ_discrete i n)
    (λ is. ap (λ (b : Bool). (if b then 1 else 0) + times n (numbers_from (i + 1) m)) (eq-eqb i n is) ∙ (let h = below_from n (i + 1) m (omega (arith, is)) in omega (arith, h)))
    (λ other. ap (λ (b : Bool). (if b then 1 else 0) + times n (numbers_from (i + 1) m)) (ne_eqb i n other) ∙ (let ne : i ≢ n = other in let h = times_from n (i + 1) m (omega (arith, low, ne)) (omega (arith, high)) in omega (arith, h)))

spares_from : (k i m : ℕ) → i + m ≤ k → Each (λ n. (n < k) × (own_from n 1 [] ≡ [])) (numbers_from i m)
spares_from k i zero fits = tt
spares_from k i (suc m) fits = ((omega (arith, fits), refl), spares_from k (i + 1) m (omega (arith, fits)))

module _ (k : ℕ) where
  abbrev St : Type 0
  St = State (Unit {0}) View

  pub splits : (id : ℕ) (v : View) (m : ℕ) (ms : List ℕ) → v.live ≡ true → v.spares ≡ m ∷ ms → Splits (Kept k) id v (kept_back v) (split_off v)
  splits id v m ms live is s r at =
      let f = r.fits id v at live in
      let l = kept_back v in
      let w = split_off v in
      let first : get_or v.spares 0 0 ≡ m = ap (λ (xs : List ℕ). get_or xs 0 0) is in
      let behind : drop 1 v.spares ≡ ms = ap (drop 1) is in
      let spares = subst (Each (λ n. (n < k) × (own_from n 1 r.entries ≡ []))) is f.spares in
      let w_fits : Fits k s.words r.entries w = let none_used : used m r.entries ≡ 0 = sym (filled_own m 1 r.entries) ∙ ap filled spares.0.1 in record {
        number = subst (λ (n : ℕ). n < k) (sym first) spares.0.0;
        seats = f.seats;
        owns = sym (subst (λ (n : ℕ). own_from n 1 r.entries ≡ []) (sym first) spares.0.1);
        held = λ j e got here. absurd (no_entry (get_or v.spares 0 0) r.entries (subst (λ (n : ℕ). own_from n 1 r.entries ≡ []) (sym first) spares.0.1) j e got here);
        olds = tt;
        blank = λ _. refl;
        spares = tt;
        room = let same = ap (λ (n : ℕ). used n r.entries) first in omega (arith, none_used, same);
        draft = λ j lt. absurd (omega (arith, lt));
        unseen = f.unseen;
        seen = f.seen;
        known = tt;
      } in
      let l_fits : Fits k s.words r.entries l = record { number = f.number; seats = f.seats; owns = f.owns; held = f.held; olds = f.olds; blank = f.blank; spares = subst (Each (λ n. (n < k) × (own_from n 1 r.entries ≡ []))) (sym behind) spares.1; room = f.room; draft = f.draft; unseen = f.unseen; seen = f.seen; known = f.known } in
      let all = fit_set k s.words r.entries s.views id l l_fits (λ j u _ got alive. r.fits j u got alive) in
      with_views k s r (set s.views id l ++ w ∷ [])
      (λ n low.
      let count = λ (u : View). times n (numbers u) in
      let one = r.once n low in
      let t = total_set count s.views id v l at in
      let both = total_append count (set s.views id l) (w ∷ []) in
      let old_v = ap (times n) (live_numbers v live) in
      let old_l = ap (times n) (live_numbers l live) in
      let part_v = times_append n (map (λ (o : Old). o.number) v.olds) v.spares in
      let part_l = times_append n (map (λ (o : Old). o.number) v.olds) (drop 1 v.spares) in
      let cut : times n v.spares ≡ times n (get_or v.spares 0 0 ∷ drop 1 v.spares) = ap (times n) (is ∙ ap (λ xs. m ∷ xs) (sym behind) ∙ ap (λ (x : ℕ). x ∷ drop 1 v.spares) (sym first)) in
      omega (arith, one, t, both, old_v, old_l, part_v, part_l, cut))
      (λ j u got alive. ⊎_elim (λ (old : get_elem? (set s.views id l) j ≡ some u). all j u old alive) (λ (new : w ≡ u). subst (λ (x : View). Fits k s.words r.entries x) new w_fits) (at_snoc (set s.views id l) w u j got))

  longer_is : (xs ys : List ℕ) (b : Bool) → ((if b then ys else xs) ≡ xs) ⊎ ((if b then ys else xs) ≡ ys)
  longer_is xs ys true = inr refl
  longer_is xs ys false = inl refl

  longer_at : (xs ys : List ℕ) (b : Bool) → ltb (length xs) (length ys) ≡ b → (length xs ≤ length (if b then ys else xs)) × (length ys ≤ length (if b then ys else xs))
  longer_at xs ys true e = let lt = ltb-true (length xs) (length ys) e in (omega (arith, lt), omega arith)
  longer_at xs ys false e = let le = ltb-false (length xs) (length ys) e in (omega arith, le)

  longer_len : (xs ys : List ℕ) → (length xs ≤ length (longer xs ys)) × (length ys ≤ length (longer xs ys))
  longer_len xs ys = longer_at xs ys (ltb (length xs) (length ys)) refl

  joined_fits : (ws : List ℕ) (es : List ChainEntry) (v w : View) → Fits k ws es v → Fits k ws es w → Fits k ws es (joined v w)
  joined_fits ws es v w f g =
      let n : ℕ = length (longer v.seen w.seen) in
      let long : (length v.seen ≤ n) × (length w.seen ≤ n) = longer_len v.seen w.seen in
      let taken : IsOld es (v.known ++ w.known) n (old_of v w) = record {
        owns = g.owns;
        seen = (g.unseen, g.seen);
        mine = (f.unseen, f.seen);
        seen_short = long.1;
        mine_short = long.0;
        held = held_longer es w.known (v.known ++ w.known) (length w.seen) n w.number (in_behind v.known w.known) long.1 g.held;
      } in
      let seen : Starts (map at_of es) (longer v.seen w.seen) = ⊎_elim (λ (e : longer v.seen w.seen ≡ v.seen). subst (Starts (map at_of es)) (sym e) (f.unseen, f.seen)) (λ (e : longer v.seen w.seen ≡ w.seen). subst (Starts (map at_of es)) (sym e) (g.unseen, g.seen))
      (longer_is v.seen w.seen (ltb (length v.seen) (length w.seen))) in record {
        number = f.number;
        seats = f.seats;
        owns = f.owns;
        held = held_longer es v.known (v.known ++ w.known) (length v.seen) n v.number (in_longer v.known w.known) long.0 f.held;
        olds = each_append (IsOld es (v.known ++ w.known) n) v.olds (old_of v w ∷ w.olds) (olds_longer es v.known (v.known ++ w.known) (length v.seen) n v.olds (in_longer v.known w.known) long.0 f.olds)
            (taken, olds_longer es w.known (v.known ++ w.known) (length w.seen) n w.olds (in_behind v.known w.known) long.1 g.olds);
        blank = λ z. let l = long.0 in let m = long.1 in ap₂ ◌++◌ (f.blank (omega (arith, l, z))) (g.blank (omega (arith, m, z)));
        spares = f.spares;
        room = f.room;
        draft = f.draft;
        unseen = seen.0;
        seen = seen.1;
        known = each_append (IsKnown ws es) v.known w.known f.known g.known;
      }

  pub joins : (id : ℕ) (v : View) (other : ℕ) (w : View) → v.live ≡ true → w.live ≡ true → w.spares ≡ [] → Joins (Kept k) id v other w (joined v w) spent
  joins id v other w live alive bare s r at apart there =
      let b = joined v w in
      let was : get_elem? s.views other ≡ some w = ⊎_elim (λ (t : (other ≡ id) × (b ≡ w)). absurd (apart t.0)) (λ (t : (other ≢ id) × (get_elem? s.views other ≡ some w)). t.1) (at_set s.views id other b w there) in
      let f = r.fits id v at live in
      let g = r.fits other w was alive in
      let vs = set s.views id b in
      let first = fit_set k s.words r.entries s.views id b (joined_fits s.words r.entries v w f g) (λ j u _ got ok. r.fits j u got ok) in
      with_views k s r (set vs other spent)
      (λ n low.
      let count = λ (u : View). times n (numbers u) in
      let one = r.once n low in
      let t = total_set count s.views id v b at in
      let u = total_set count vs other w spent there in
      let num_v = ap (times n) (live_numbers v live) in
      let num_w = ap (times n) (live_numbers w alive) in
      let num_b = ap (times n) (live_numbers b live) in
      let split_v = times_append n (map (λ (o : Old). o.number) v.olds) v.spares in
      let split_w = times_append n (map (λ (o : Old). o.number) w.olds) w.spares in
      let split_b = times_append n (map (λ (o : Old). o.number) b.olds) v.spares in
      let split_o = ap (times n) (map-append (λ (o : Old). o.number) v.olds (old_of v w ∷ w.olds)) ∙ times_append n (map (λ (o : Old). o.number) v.olds) (map (λ (o : Old). o.number) (old_of v w ∷ w.olds)) in
      let none_left : times n w.spares ≡ 0 = ap (times n) bare in
      omega (arith, one, t, u, num_v, num_w, num_b, split_v, split_w, split_b, split_o, none_left))
      (λ j u got ok. ⊎_elim (λ (x : (j ≡ other) × (spent ≡ u)). absurd (not_live spent u x.1 refl ok)) (λ (x : (j ≢ other) × (get_elem? vs j ≡ some u)). first j u x.1 ok) (at_set vs other j spent u got))

  -- the table at the start
  only_at : (v : View) (id : ℕ) (u : View) → get_elem? (v ∷ []) id ≡ some u → v ≡ u
  only_at v zero u e = some-injective v u e
  only_at v (suc id) u e = absurd (some-ne-none u (sym e))

  pub opens : (ws : List ℕ) → 0 < k → length ws ≡ start k → get_or ws 0 0 ≡ 0 → Kept k (opening ws [] (newcomer k))
  opens ws some_k len zero_there = record {
    entries = [];
    long = len;
    chained = zero_there;
    lies = λ j e got. absurd (some-ne-none e (sym got));
    opens = λ j e got. absurd (some-ne-none e (sym got));
    once = λ n low. dite (ℕ_discrete 0 n)
        (λ is. let t : times n (0 ∷ numbers_from 1 (k - 1)) ≡ 1 + times n (numbers_from 1 (k - 1)) = ap (λ (b : Bool). (if b then 1 else 0) + times n (numbers_from 1 (k - 1))) (eq-eqb 0 n is) in let h = below_from n 1 (k - 1) (omega (arith, is)) in omega (arith, t, h))
        (λ other. let t : times n (0 ∷ numbers_from 1 (k - 1)) ≡ 0 + times n (numbers_from 1 (k - 1)) = ap (λ (b : Bool). (if b then 1 else 0) + times n (numbers_from 1 (k - 1))) (ne_eqb 0 n other) in let ne : 0 ≢ n = other in
        let h = times_from n 1 (k - 1) (omega (arith, ne)) (omega (arith, low)) in omega (arith, t, h));
    fits = λ id v got ok. subst (λ (x : View). Fits k ws [] x) (only_at (newcomer k) id v got) record {
      number = some_k;
      seats = refl;
      owns = refl;
      held = λ j e got. absurd (some-ne-none e (sym got));
      olds = tt;
      blank = λ _. refl;
      spares = spares_from k 1 (k - 1) (omega (arith, some_k));
      room = omega arith;
      draft = λ j lt. absurd (omega (arith, lt));
      unseen = [];
      seen = refl;
      known = tt;
    };
  }
