-- Two seats in one.
use Rattle.std.proofs.Common.{◌≡◌, ℕ, ◌+◌, ◌-◌, ◌*◌, ◌<◌, ◌≤◌, ◌⊎◌, inl, inr, ltb, ltb-true, ltb-false, Bool, true, false, if◌then◌else◌, List, [], ◌∷◌, ◌++◌, map, length, sym, refl, ap, ap₂, ◌∙◌, subst, ⊎_elim, arith, append-nil}
use Rattle.std.proofs.lemmas.List.{nil_from_length}
use mathlib.Core.Option.{some, some-ne-none}
use lib.ListN.{get_elem?}
use Rattle.queue_rule.specs.declared.view.View.{View}
use Rattle.queue_rule.specs.declared.view.Old.{Old}
use Rattle.queue_rule.specs.declared.view.Own.{Own}
use Rattle.queue_rule.specs.Lists.{Each, Starts, last_or, longer}
use Rattle.queue_rule.specs.Chain.{start, filled}
use Rattle.queue_rule.specs.Views.{Knows, known, knows, joined, old_of}
use Rattle.queue_rule.specs.Told.{Sound, HasOwn, HeadsAt, filled_by}
use Rattle.queue_rule.proofs.Lists.{all_more, each_append}
use Rattle.queue_rule.proofs.Knowing.{in_longer, in_behind}
use Rattle.delete_queue.specs.declared.queue.DeleteQueue.{DeleteQueue}
use Rattle.delete_queue.specs.declared.seat.Seat.{Seat}
use Rattle.delete_queue.specs.declared.seat.Progress.{Progress}
use Rattle.delete_queue.specs.Ties.{IsTold, IsLiveOf}
use Rattle.delete_queue.specs.Seats.{IsSeatOf, Shows, Meets, SawClosed, joined_of, the_view}
use Rattle.delete_queue.specs.Linking.{IsTaken, gone_on}
use Rattle.delete_queue.proofs.Fields.{knows_more}
use Rattle.delete_queue.proofs.Growing.{extended}
use Rattle.delete_queue.proofs.Looking.{still_open}

mine_stays : (v w : View) (a x : ℕ) → Knows v a x → Knows (joined v w) a x
mine_stays v w = in_longer v.known w.known

theirs_comes : (v w : View) (a x : ℕ) → Knows w a x → Knows (joined v w) a x
theirs_comes v w = in_behind v.known w.known

-- the fields of the further seat are those of both
shows_both : (b : Bool) (v w : View) (p r : Progress) → Shows v p → Shows w r → (seen : List ℕ) → seen ≡ (if b then w.seen else v.seen)
    → let t = if b then gone_on p r else p in (t.number ≡ v.number) × (t.used ≡ filled v.own) × (t.count ≡ length seen) × (t.last ≡ last_or 0 seen) × (((seen ≡ []) × (t.head ≡ 0)) ⊎ Knows (joined v w) (last_or 0 seen + 1) t.head)
shows_both true v w p r h g seen is = (
  h.number,
  h.used,
  g.count ∙ ap length (sym is),
  g.last ∙ ap (last_or 0) (sym is),
  ⊎_elim (λ z. inl (is ∙ z.0, z.1)) (λ k. inr (subst (λ (l : List ℕ). Knows (joined v w) (last_or 0 l + 1) r.head) (sym is) (theirs_comes v w (last_or 0 w.seen + 1) r.head k))) g.head,
)
shows_both false v w p r h g seen is = (
  h.number,
  h.used,
  h.count ∙ ap length (sym is),
  h.last ∙ ap (last_or 0) (sym is),
  ⊎_elim (λ z. inl (is ∙ z.0, z.1)) (λ k. inr (subst (λ (l : List ℕ). Knows (joined v w) (last_or 0 l + 1) p.head) (sym is) (mine_stays v w (last_or 0 v.seen + 1) p.head k))) h.head,
)

shows_joined : (v w : View) (p r : Progress) → Shows v p → Shows w r → Shows (joined v w) (if ltb p.count r.count then gone_on p r else p)
shows_joined v w p r h g =
    let test : ltb p.count r.count ≡ ltb (length v.seen) (length w.seen) = ap₂ ltb h.count g.count in
    let b = shows_both (ltb (length v.seen) (length w.seen)) v w p r h g (longer v.seen w.seen) refl in
    subst (λ (c : Bool). Shows (joined v w) (if c then gone_on p r else p)) (sym test) (record { number = b.0; used = b.1; count = b.2; last = b.3; head = b.4 })

pub taken : (q : DeleteQueue) (s o t : Seat) → IsSeatOf q s → IsSeatOf q o → IsLiveOf q t.inner → the_view t ≡ joined (the_view s) (the_view o) → t.base ≡ s.base
    → t.progress ≡ (if ltb s.progress.count o.progress.count then gone_on s.progress o.progress else s.progress) → IsTaken q t
taken q s o t h g live v b p = record {
  table = live;
  base = b ∙ h.base;
  spares = ap (λ (x : View). x.spares) v ∙ h.spares;
  shows = subst (λ (x : View). Shows x t.progress) (sym v) (subst (Shows (joined (the_view s) (the_view o))) (sym p) (shows_joined (the_view s) (the_view o) s.progress o.progress h.shows g.shows));
}

each_mid : {A : Type 0} (P : A → Type 0) (xs ys : List A) (a : A) → Each P (xs ++ a ∷ ys) → P a
each_mid P [] ys a h = h.0
each_mid P (x ∷ xs) ys a h = each_mid P xs ys a h.1

-- what both had seen begins what is seen now
met : (v w u : View) → Sound u → u.olds ≡ (joined v w).olds → Starts u.seen w.seen × Starts u.seen v.seen
met v w u s is = each_mid (λ (o : Old). Starts u.seen o.seen × Starts u.seen o.mine) v.olds w.olds (old_of v w) (subst (λ (os : List Old). Each (λ o. Starts u.seen o.seen × Starts u.seen o.mine) os) is s.met)

map_mid : (xs ys : List Old) (o : Old) → map joined_of (xs ++ o ∷ ys) ≡ map joined_of xs ++ joined_of o ∷ map joined_of ys
map_mid [] ys o = refl
map_mid (x ∷ xs) ys o = ap (λ l. joined_of x ∷ l) (map_mid xs ys o)

-- a closing entry that was seen is still the last one seen
closed_stays : (v u : View) (rest : List ℕ) → Sound v → Sound u → u.seen ≡ v.seen ++ rest → ((a x : ℕ) → Knows v a x → Knows u a x) → SawClosed v → SawClosed u
closed_stays v u [] sv su e known c = (c.0, subst (λ (l : List ℕ). Knows u (last_or 0 l + 1) c.0) (sym (e ∙ append-nil v.seen)) (known (last_or 0 v.seen + 1) c.0 c.1), c.2)
closed_stays v u (y ∷ rest) sv su e known c = absurd (still_open v u y rest v.seen refl sv su e known c)

-- the seat of the view u, which knows what both knew
pub settled : (q : DeleteQueue) (s o r t : Seat) → IsSeatOf q s → IsSeatOf q o → IsTaken q r → the_view r ≡ joined (the_view s) (the_view o) → IsTold q t.inner
    → (the_view t).number ≡ (the_view s).number → (the_view t).own ≡ (the_view s).own → (the_view t).spares ≡ [] → (the_view t).olds ≡ (joined (the_view s) (the_view o)).olds → (the_view t).seen ≡ (joined (the_view s) (the_view o)).seen
    → ((a x : ℕ) → Knows (joined (the_view s) (the_view o)) a x → Knows (the_view t) a x) → t.base ≡ r.base → t.progress ≡ r.progress → IsSeatOf q t × Meets s o t
settled q s o r t h g rough v inner number own spares olds seen knows_all b p =
    let x = the_view s in let y = the_view o in let u = the_view t in let j = joined x y in
    let both = met x y u inner.1 olds in
    let mine : (a n : ℕ) → Knows x a n → Knows u a n = λ a n k. knows_all a n (mine_stays x y a n k) in
    let theirs : (a n : ℕ) → Knows y a n → Knows u a n = λ a n k. knows_all a n (theirs_comes x y a n k) in
    let was : Shows j r.progress = subst (λ (z : View). Shows z r.progress) v rough.shows in
    let is : IsSeatOf q t = record {
      table = inner;
      base = b ∙ rough.base;
      spares = spares;
      shows = subst (Shows u) (sym p) (record {
        number = was.number ∙ sym number;
        used = was.used ∙ ap filled (sym own);
        count = was.count ∙ ap length (sym seen);
        last = was.last ∙ ap (last_or 0) (sym seen);
        head = ⊎_elim (λ z. inl (seen ∙ z.0, z.1)) (λ k. inr (subst (λ (l : List ℕ). Knows u (last_or 0 l + 1) r.progress.head) (sym seen) (knows_all (last_or 0 j.seen + 1) r.progress.head k))) was.head;
      });
      kept_back = ⊎_elim (λ le. inl (subst (λ (l : List Own). filled l ≤ 16640) (sym own) le)) (λ c. inr (closed_stays x u both.1.0 h.table.1 inner.1 both.1.1 mine c)) h.kept_back;
    } in (
      is,
      record {
        mine = extended q s t h is both.1 mine;
        theirs = extended q o t g is both.0 theirs;
        number = number;
        own = own;
        olds = ap (map joined_of) olds ∙ map_mid x.olds y.olds (old_of x y);
      },
    )

-- after the load
pub settled_loaded : (q : DeleteQueue) (s o r t : Seat) (n : ℕ) → IsSeatOf q s → IsSeatOf q o → IsTaken q r → the_view r ≡ joined (the_view s) (the_view o) → IsTold q t.inner → the_view t ≡ knows (the_view r) 0 n
    → t.base ≡ r.base → t.progress ≡ r.progress → IsSeatOf q t × Meets s o t
settled_loaded q s o r t n h g rough v inner e b p =
    let j = joined (the_view s) (the_view o) in
    let is : the_view t ≡ knows j 0 n = e ∙ ap (λ (z : View). knows z 0 n) v in
    settled q s o r t h g rough v inner (ap (λ (z : View). z.number) is) (ap (λ (z : View). z.own) is) (ap (λ (z : View). z.spares) is ∙ h.spares) (ap (λ (z : View). z.olds) is) (ap (λ (z : View). z.seen) is)
    (λ a x k. subst (λ (z : View). Knows z a x) (sym is) (knows_more j 0 n a x k)) b p

-- ---- where neither has seen an entry

longer_blank : (xs ys : List ℕ) (b : Bool) → ltb (length xs) (length ys) ≡ b → length (if b then ys else xs) ≡ 0 → (length xs ≡ 0) × (length ys ≡ 0)
longer_blank xs ys true e z = let lt = ltb-true (length xs) (length ys) e in absurd (omega (arith, lt, z))
longer_blank xs ys false e z = let le = ltb-false (length xs) (length ys) e in (z, omega (arith, le, z))

none_at : (l : List ℕ) (i a : ℕ) → l ≡ [] → get_elem? l i ≡ some a → ⊥
none_at l i a e got = some-ne-none a (sym (ap (λ m. get_elem? m i) (sym e) ∙ got))

no_heads : (v : View) (l hs : List ℕ) (n : ℕ) → l ≡ [] → HeadsAt v l hs → filled_by hs ≤ n
no_heads v l [] n e h = omega arith
no_heads v l (x ∷ hs) n e h = absurd (subst (λ m. HeadsAt v m (x ∷ hs)) e h)

no_own : (v j : View) (os : List Own) → v.seen ≡ [] → HasOwn v os → HasOwn j os
no_own v j os e h = λ i o got. let r = h i o got in absurd (none_at v.seen (o.place - 1) r.0 e r.2)

blank_sound : (v w : View) → Sound v → Sound w → length (longer v.seen w.seen) ≡ 0 → Sound (joined v w)
blank_sound v w s t z =
    let j = joined v w in
    let both = longer_blank v.seen w.seen (ltb (length v.seen) (length w.seen)) refl z in
    let here : longer v.seen w.seen ≡ [] = nil_from_length (longer v.seen w.seen) z in
    let mine : v.seen ≡ [] = nil_from_length v.seen both.0 in
    let theirs : w.seen ≡ [] = nil_from_length w.seen both.1 in
    let nothing : v.known ++ w.known ≡ [] = ap₂ ◌++◌ (s.blank both.0) (t.blank both.1) in
    let starts : (xs : List ℕ) → xs ≡ [] → Starts (longer v.seen w.seen) xs = λ xs e. (longer v.seen w.seen, ap (λ l. l ++ longer v.seen w.seen) (sym e)) in
    let from : (xs : List ℕ) → xs ≡ [] → (os : List Old) → Each (λ o. Starts xs o.seen × Starts xs o.mine) os → Each (λ o. Starts (longer v.seen w.seen) o.seen × Starts (longer v.seen w.seen) o.mine) os =
    λ xs e os h. subst (λ l. Each (λ (o : Old). Starts l o.seen × Starts l o.mine) os) (e ∙ sym here) h in record {
      number = s.number;
      inside = subst (Each (λ (a : ℕ). (0 < a) × (a + 1 < start v.seats))) (sym here) tt;
      room = s.room;
      bound = omega (arith, z);
      total = λ hs h. no_heads j j.seen hs (16642 * v.seats) here h;
      fits = λ i a h got. absurd (none_at j.seen i a here got);
      kinds = λ i a h got. absurd (none_at j.seen i a here got);
      opens = λ i a h got. absurd (none_at j.seen i a here got);
      nexts = λ i a b x e got. absurd (none_at j.seen i b here got);
      owns = no_own v j v.own mine s.owns;
      old_owns = each_append (λ (o : Old). HasOwn j o.own) v.olds (old_of v w ∷ w.olds)
          (all_more (λ (o : Old). HasOwn v o.own) (λ (o : Old). HasOwn j o.own) v.olds (λ o h. no_own v j o.own mine h) s.old_owns)
          (no_own w j w.own theirs t.owns, all_more (λ (o : Old). HasOwn w o.own) (λ (o : Old). HasOwn j o.own) w.olds (λ o h. no_own w j o.own theirs h) t.old_owns);
      own_words = s.own_words;
      grammar = λ i a ws got. absurd (none_at j.seen i a here got);
      met = each_append (λ (o : Old). Starts (longer v.seen w.seen) o.seen × Starts (longer v.seen w.seen) o.mine) v.olds (old_of v w ∷ w.olds) (from v.seen mine v.olds s.met) ((starts w.seen theirs, starts v.seen mine), from w.seen theirs w.olds t.met);
      blank = λ _. nothing;
      agree = λ a x y k. absurd (some-ne-none (known a x) (sym (ap (λ l. get_elem? l k.0) (sym nothing) ∙ k.1)));
    }

pub settled_blank : (q : DeleteQueue) (s o r : Seat) → IsSeatOf q s → IsSeatOf q o → IsTaken q r → the_view r ≡ joined (the_view s) (the_view o) → r.progress.count ≡ 0 → IsSeatOf q r × Meets s o r
settled_blank q s o r h g rough v z =
    let j = joined (the_view s) (the_view o) in
    let c : length j.seen ≡ 0 = ap (λ (x : View). length x.seen) (sym v) ∙ (sym rough.shows.count ∙ z) in
    settled q s o r r h g rough v (rough.table, subst Sound (sym v) (blank_sound (the_view s) (the_view o) h.table.1 g.table.1 c))
    (ap (λ (x : View). x.number) v) (ap (λ (x : View). x.own) v) rough.spares (ap (λ (x : View). x.olds) v) (ap (λ (x : View). x.seen) v)
    (λ a x k. subst (λ (y : View). Knows y a x) (sym v) k) refl refl
