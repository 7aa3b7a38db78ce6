-- Lists of entries: the chain that they make, and one entry more.
use Rattle.std.proofs.Common.{◌≡◌, ◌≢◌, ℕ, zero, suc, ◌+◌, ◌<◌, ◌≤◌, ◌⊎◌, eqb, Bool, true, false, if◌then◌else◌, List, [], ◌∷◌, ◌++◌, append_assoc, append-nil, map, length, get_or, take, drop, set, sym, refl, ap, ◌∙◌, subst, inl, inr, ⊎_elim, arith, eq-eqb, ne_eqb, get_or-set_other, get_or-set_same, lt_of_not-le}
use Rattle.std.proofs.lemmas.List.{map-append}
use mathlib.Core.Option.{some, some-injective, some-ne-none}
use mathlib.Core.Logic.{dite}
use native.Mathlib.Decide.{ℕ_discrete, dec_le, dec_lt}
use lib.ListN.{get_elem?}
use Rattle.atomic_table.proofs.Lists.{at_snoc}
use Rattle.queue_rule.specs.declared.view.Own.{Own}
use Rattle.queue_rule.specs.declared.view.Known.{Known}
use Rattle.queue_rule.specs.declared.view.Old.{Old}
use Rattle.queue_rule.specs.Lists.{Each, Starts, times, last_or}
use Rattle.queue_rule.specs.Views.{known}
use Rattle.queue_rule.specs.Rule.{IsOld, IsKnown}
use Rattle.queue_rule.specs.Chain.{ChainEntry, need, used, own, own_from, Chained, Spelled, IsNext}
use Rattle.queue_rule.proofs.Lists.{used_take}
use Rattle.queue_rule.proofs.Chain.{AllLie}
use Rattle.queue_rule.proofs.Drafting.{no_times}
use Rattle.queue_rule.specs.Rule.{KnowsAll}
use Rattle.queue_rule.proofs.Knowing.{KnownIn, held_longer}

abbrev pub at_of : ChainEntry → ℕ
at_of e = e.at

-- ---- chains

pub chained_split : (ws : List ℕ) (p : ℕ) (xs ys : List ℕ) → Chained ws p (xs ++ ys) → Chained ws (last_or p xs) ys
chained_split ws p [] ys h = h
chained_split ws p (a ∷ xs) ys h = chained_split ws a xs ys h.2

pub chained_last : (ws : List ℕ) (p : ℕ) (xs : List ℕ) → Chained ws p xs → get_or ws (last_or p xs) 0 ≡ 0
chained_last ws p [] h = h
chained_last ws p (a ∷ xs) h = chained_last ws a xs h.2

pub chained_more : (ws : List ℕ) (p : ℕ) (xs : List ℕ) (a : ℕ) → Chained ws p xs → last_or p xs < length ws → 0 < a → a ≢ last_or p xs → get_or ws a 0 ≡ 0 → Chained (set ws (last_or p xs) a) p (xs ++ a ∷ [])
chained_more ws p [] a h inside some_a other zero_a = (get_or-set_same ws p a 0 inside, some_a, get_or-set_other ws p a a 0 other ∙ zero_a)
chained_more ws p (b ∷ xs) a h inside some_a other zero_a =
    let last = chained_last ws b xs h.2 in
    let first = h.0 in
    let some_b = h.1 in
    (get_or-set_other ws (last_or b xs) p a 0 (λ e. let same = ap (λ (i : ℕ). get_or ws i 0) e in let z : ⊥ = omega (arith, same, last, first, some_b) in z) ∙ h.0, h.1, chained_more ws b xs a h.2 inside some_a other zero_a)

-- the entry at a place of the chain
pub entry_at : (es : List ChainEntry) (xs : List ℕ) (a : ℕ) (rest : List ℕ) → map at_of es ≡ xs ++ a ∷ rest → (e : ChainEntry) × (get_elem? es (length xs) ≡ some e) × (e.at ≡ a)
entry_at [] [] a rest h = let n : 0 ≡ 1 + length rest = ap length h ∙ omega arith in absurd (omega (arith, n))
entry_at [] (x ∷ xs) a rest h = let n : 0 ≡ 1 + length (xs ++ a ∷ rest) = ap length h ∙ omega arith in absurd (omega (arith, n))
entry_at (e ∷ es) [] a rest h = (e, refl, ap (λ l. get_or l 0 0) h)
entry_at (e ∷ es) (x ∷ xs) a rest h = entry_at es xs a rest (ap (drop 1) h)

-- the last entry, or word 0
pub last_entry : (es : List ChainEntry) (p : ℕ) → (es ≡ []) ⊎ ((e : ChainEntry) × (j : ℕ) × (get_elem? es j ≡ some e) × (j + 1 ≡ length es) × (last_or p (map at_of es) ≡ e.at))
last_entry [] p = inl refl
last_entry (e ∷ es) p = inr (⊎_elim (λ (is : es ≡ []). (e, 0, refl, ap (λ (l : List ChainEntry). suc (length l)) (sym is), ap (λ l. last_or e.at (map at_of l)) is))
    (λ (t : (x : ChainEntry) × (j : ℕ) × (get_elem? es j ≡ some x) × (j + 1 ≡ length es) × (last_or e.at (map at_of es) ≡ x.at)). let len = t.3 in (t.0, suc t.1, t.2, omega (arith, len), t.4)) (last_entry es e.at))

-- ---- one entry more

pub used_more : (i : ℕ) (es : List ChainEntry) (e : ChainEntry) → used i (es ++ e ∷ []) ≡ used i es + used i (e ∷ [])
used_more i [] e = omega arith
used_more i (x ∷ es) e = let h = used_more i es e in omega (arith, h)

pub used_same : (e : ChainEntry) → used e.seat (e ∷ []) ≡ need e
used_same e = ap (λ (b : Bool). (if b then need e else 0) + 0) (eq-eqb e.seat e.seat refl) ∙ omega arith

pub used_other : (i : ℕ) (e : ChainEntry) → e.seat ≢ i → used i (e ∷ []) ≡ 0
used_other i e n = ap (λ (b : Bool). (if b then need e else 0) + 0) (ne_eqb e.seat i n)

pub own_if : (b : Bool) (o : Own) (os ps : List Own) → (if b then o ∷ (os ++ ps) else (os ++ ps)) ≡ (if b then o ∷ os else os) ++ ps
own_if true o os ps = refl
own_if false o os ps = refl

pub own_more : (i p : ℕ) (es : List ChainEntry) (e : ChainEntry) → own_from i p (es ++ e ∷ []) ≡ own_from i p es ++ own_from i (p + length es) (e ∷ [])
own_more i p [] e = ap (λ (n : ℕ). own_from i n (e ∷ [])) (omega arith)
own_more i p (x ∷ es) e = let h = own_more i (p + 1) es e in let n : (p + 1) + length es ≡ p + suc (length es) = omega arith in
    let h' : own_from i (p + 1) (es ++ e ∷ []) ≡ own_from i (p + 1) es ++ own_from i (p + suc (length es)) (e ∷ []) = h ∙ ap (λ (m : ℕ). own_from i (p + 1) es ++ own_from i m (e ∷ [])) n in
    ap (λ l. if eqb x.seat i then own p x.words ∷ l else l) h' ∙ own_if (eqb x.seat i) (own p x.words) (own_from i (p + 1) es) (own_from i (p + suc (length es)) (e ∷ []))

pub own_same : (e : ChainEntry) (p : ℕ) → own_from e.seat p (e ∷ []) ≡ own p e.words ∷ []
own_same e p = ap (λ (b : Bool). if b then own p e.words ∷ [] else []) (eq-eqb e.seat e.seat refl)

pub own_other : (i p : ℕ) (e : ChainEntry) → e.seat ≢ i → own_from i p (e ∷ []) ≡ []
own_other i p e n = ap (λ (b : Bool). if b then own p e.words ∷ [] else []) (ne_eqb e.seat i n)

pub spelled_else : (ws : List ℕ) (a x at : ℕ) (xs : List ℕ) → Spelled ws at xs → ((j : ℕ) → j < length xs → at + j ≢ a) → Spelled (set ws a x) at xs
spelled_else ws a x at xs h other j l = get_or-set_other ws a (at + j) x 0 (other j l) ∙ h j l

pub take_before : (es : List ChainEntry) (i j : ℕ) (e : ChainEntry) → get_elem? es j ≡ some e → j < i → (get_elem? (take i es) j ≡ some e) × (take j (take i es) ≡ take j es)
take_before [] i j e h l = absurd (some-ne-none e (sym h))
take_before (x ∷ es) zero j e h l = absurd (omega (arith, l))
take_before (x ∷ es) (suc i) zero e h l = (h, refl)
take_before (x ∷ es) (suc i) (suc j) e h l = let r = take_before es i j e h (omega (arith, l)) in (r.0, ap (λ t. x ∷ t) r.1)

pub at_last_place : (es : List ChainEntry) (j : ℕ) (y : ChainEntry) → get_elem? es j ≡ some y → j + 1 ≡ length es → y.at ≡ last_or 0 (map at_of es)
at_last_place es j y got len = ⊎_elim (λ (none : es ≡ []). absurd (some-ne-none y (sym (subst (λ (l : List ChainEntry). get_elem? l j ≡ some y) none got))))
    (λ (t : (z : ChainEntry) × (i : ℕ) × (get_elem? es i ≡ some z) × (i + 1 ≡ length es) × (last_or 0 (map at_of es) ≡ z.at)). let li = t.3 in let same : j ≡ t.1 = omega (arith, li, len) in
    ap at_of (some-injective y t.0 (sym got ∙ (ap (get_elem? es) same ∙ t.2))) ∙ sym t.4) (last_entry es 0)

pub lt_or_not : (a b : ℕ) → (a < b → ⊥) → b ≤ a
lt_or_not a b n = dite (dec_le b a) (λ le. le) (λ gt. absurd (n (lt_of_not-le gt)))

pub each_at : {A : Type 0} (P : A → Type 0) (l : List A) → Each P l → (j : ℕ) (a : A) → get_elem? l j ≡ some a → P a
each_at P [] h j a e = absurd (some-ne-none a (sym e))
each_at P (x ∷ l) h zero a e = subst P (some-injective x a e) h.0
each_at P (x ∷ l) h (suc j) a e = each_at P l h.1 j a e

-- the olds and the spare numbers of a view that doesn't hold the entry's seat
pub starts_more : (l xs : List ℕ) (a : ℕ) → Starts l xs → Starts (l ++ a ∷ []) xs
starts_more l xs a h = (h.0 ++ a ∷ [], ap (λ m. m ++ a ∷ []) h.1 ∙ append_assoc xs h.0 (a ∷ []))

pub own_else : (es : List ChainEntry) (e : ChainEntry) (n : ℕ) → n ≢ e.seat → own_from n 1 (es ++ e ∷ []) ≡ own_from n 1 es
own_else es e n ne = own_more n 1 es e ∙ (ap (λ l. own_from n 1 es ++ l) (own_other n (1 + length es) e (λ q. ne (sym q))) ∙ append-nil (own_from n 1 es))

pub held_more : (es : List ChainEntry) (e : ChainEntry) (ks ls : List Known) (n m i : ℕ) → KnownIn ks ls → n ≤ m → i ≢ e.seat → KnowsAll es ks n i → KnowsAll (es ++ e ∷ []) ls m i
held_more es e ks ls n m i up le ne h j y got is = ⊎_elim (λ (old : get_elem? es j ≡ some y). held_longer es ks ls n m i up le h j y old is)
    (λ (new : e ≡ y). absurd (ne (sym (ap (λ (x : ChainEntry). x.seat) new ∙ is)))) (at_snoc es e y j got)

pub old_more : (es : List ChainEntry) (e : ChainEntry) (ks ls : List Known) (n m : ℕ) (o : Old) → KnownIn ks ls → n ≤ m → o.number ≢ e.seat → IsOld es ks n o → IsOld (es ++ e ∷ []) ls m o
old_more es e ks ls n m o up le ne h = let now = sym (map-append at_of es (e ∷ [])) in let a = h.seen_short in let b = h.mine_short in record {
  owns = h.owns ∙ sym (own_else es e o.number ne);
  seen = subst (λ l. Starts l o.seen) now (starts_more (map at_of es) o.seen e.at h.seen);
  mine = subst (λ l. Starts l o.mine) now (starts_more (map at_of es) o.mine e.at h.mine);
  seen_short = omega (arith, a, le);
  mine_short = omega (arith, b, le);
  held = held_more es e ks ls n m o.number up le ne h.held;
}

pub olds_more : (es : List ChainEntry) (e : ChainEntry) (ks ls : List Known) (n m : ℕ) (os : List Old) → KnownIn ks ls → n ≤ m → times e.seat (map (λ (o : Old). o.number) os) ≡ 0 → Each (IsOld es ks n) os → Each (IsOld (es ++ e ∷ []) ls m) os
olds_more es e ks ls n m [] up le absent h = tt
olds_more es e ks ls n m (o ∷ os) up le absent h = (old_more es e ks ls n m o up le (no_times e.seat o.number (map (λ (x : Old). x.number) os) absent) h.0, olds_more es e ks ls n m os up le (omega (arith, absent)) h.1)

pub spares_more : (k : ℕ) (es : List ChainEntry) (e : ChainEntry) (ns : List ℕ) → times e.seat ns ≡ 0 → Each (λ n. (n < k) × (own_from n 1 es ≡ [])) ns → Each (λ n. (n < k) × (own_from n 1 (es ++ e ∷ []) ≡ [])) ns
spares_more k es e [] absent h = tt
spares_more k es e (n ∷ ns) absent h = ((h.0.0, own_else es e n (no_times e.seat n ns absent) ∙ h.0.1), spares_more k es e ns (omega (arith, absent)) h.1)

-- two entries lie apart
pub pair_apart : (k : ℕ) (ws : List ℕ) (es : List ChainEntry) → AllLie k ws es → (i j : ℕ) (x y : ChainEntry) → get_elem? es i ≡ some x → get_elem? es j ≡ some y → i < j → (x.at + need x ≤ y.at) ⊎ (y.at + need y ≤ x.at)
pair_apart k ws es lies i j x y gx gy before =
    let lx = lies i x gx in let ly = lies j y gy in let place_x = lx.at in let place_y = ly.at in let room_x = lx.room in let room_y = ly.room in
    let cut = take_before es j i x gx before in
    let in_front = used_take (take j es) i x cut.0 in
    let front_used : used x.seat (take i (take j es)) ≡ used x.seat (take i es) = ap (used x.seat) cut.1 in
    dite (ℕ_discrete x.seat y.seat)
    (λ seat. let su : used x.seat (take j es) ≡ used y.seat (take j es) = ap (λ (n : ℕ). used n (take j es)) seat in inl (omega (arith, place_x, place_y, in_front, front_used, seat, su)))
    (λ apart. dite (dec_le x.seat y.seat) (λ low. inl (let ne : x.seat ≢ y.seat = apart in omega (arith, place_x, place_y, room_x, low, ne)))
    (λ high. let above : y.seat < x.seat = lt_of_not-le high in inr (omega (arith, place_x, room_y, place_y, above))))

-- a word of an entry behind its next word is no entry's next word
pub payload_stays : (k : ℕ) (ws : List ℕ) (es : List ChainEntry) → AllLie k ws es → (j d : ℕ) (e : ChainEntry) → get_elem? es j ≡ some e → d < length e.words → IsNext es (e.at + 1 + d) → ⊥
payload_stays k ws es lies j d e got inside = ⊎_elim (λ (z : e.at + 1 + d ≡ 0). omega (arith, z))
    (λ (t : (i : ℕ) × (y : ChainEntry) × (get_elem? es i ≡ some y) × (y.at ≡ e.at + 1 + d)). let p = t.3 in
    dite (ℕ_discrete t.0 j)
    (λ same. let both : e ≡ t.1 = some-injective e t.1 (sym got ∙ (ap (get_elem? es) (sym same) ∙ t.2)) in let q = ap at_of both in omega (arith, p, q))
    (λ other. dite (dec_lt t.0 j)
    (λ lt. ⊎_elim (λ (h : t.1.at + need t.1 ≤ e.at). let y : ⊥ = omega (arith, h, p) in y) (λ (h : e.at + need e ≤ t.1.at). let y : ⊥ = omega (arith, h, p, inside) in y)
    (pair_apart k ws es lies t.0 j t.1 e t.2 got lt))
    (λ ge. let gt : j < t.0 = let n : t.0 ≢ j = other in dite (dec_le t.0 j) (λ le. absurd (ge (omega (arith, le, n)))) (λ nle. lt_of_not-le nle) in
    ⊎_elim (λ (h : e.at + need e ≤ t.1.at). let y : ⊥ = omega (arith, h, p, inside) in y) (λ (h : t.1.at + need t.1 ≤ e.at). let y : ⊥ = omega (arith, h, p) in y)
    (pair_apart k ws es lies j t.0 e t.1 got t.2 gt))))

-- a word of an entry is known for good
pub payload_known : (k : ℕ) (ws : List ℕ) (es : List ChainEntry) → AllLie k ws es → (j d : ℕ) (e : ChainEntry) → get_elem? es j ≡ some e → d < length e.words → IsKnown ws es (known (e.at + 1 + d) (get_or ws (e.at + 1 + d) 0))
payload_known k ws es lies j d e got inside = record {
  linked = inr (j, e, got, omega arith, omega (arith, inside));
  present = refl;
  stays = λ next _. payload_stays k ws es lies j d e got inside next;
}
