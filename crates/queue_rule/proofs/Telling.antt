-- What the rule tells a view.
use Rattle.std.proofs.Common.{MatchBool, ◌≡◌, ◌≢◌, ℕ, zero, suc, ◌+◌, ◌*◌, ◌<◌, ◌≤◌, eqb, Bool, true, false, if◌then◌else◌, List, [], ◌∷◌, ◌++◌, map, length, get_or, take, drop, sym, refl, ap, ◌∙◌, subst, ap₂, arith, eq-eqb, ne_eqb, length-append, take_all}
use Rattle.std.proofs.lemmas.List.{length-map, ext_get_or}
use Rattle.ix_base.specs.Words.{head_kind, word_count}
use mathlib.Core.Option.{some-ne-none, some, none}
use mathlib.Core.Logic.{dite}
use native.Mathlib.Decide.{ℕ_discrete}
use lib.ListN.{get_elem?}
use Rattle.atomic_table.specs.Table.{State, Me, step, Allows}
use Rattle.atomic_table.proofs.Lists.{set_here}
use Rattle.queue_rule.specs.Steps.{Drafted, Tried, Looked, HasRead}
use Rattle.queue_rule.specs.Views.{view_of, draft_start}
use Rattle.queue_rule.specs.Lists.{last_or}
use Rattle.queue_rule.specs.Told.{SawOpen, MayRead}
use Rattle.ix_base.specs.Words.{head_kind, IsEntryWords}
use Rattle.queue_rule.proofs.Drafting.{drafts}
use Rattle.queue_rule.proofs.Linking.{tries}
use Rattle.queue_rule.proofs.Viewing.{reads, looks}
use prog.Atomic.{either}
use Rattle.queue_rule.specs.declared.view.View.{View}
use Rattle.queue_rule.specs.Lists.{Each, Starts}
use Rattle.queue_rule.specs.Chain.{Chained, ChainEntry, need, start, used, filled}
use Rattle.queue_rule.specs.Views.{view_of, known}
use Rattle.queue_rule.specs.Rule.{IsKnown, Fits, Kept, IsOld}
use Rattle.queue_rule.specs.Told.{Sound}
use Rattle.queue_rule.specs.declared.view.Old.{Old}
use Rattle.queue_rule.specs.declared.view.Own.{Own}
use Rattle.queue_rule.proofs.Lists.{at_inside, all_more}
use Rattle.queue_rule.proofs.Chain.{has_words, has_count, AllLie}
use Rattle.queue_rule.proofs.Drafting.{filled_own}
use Rattle.queue_rule.proofs.Entries.{at_of, each_at, used_more, used_other, used_same}
use Rattle.queue_rule.proofs.Learning.{own_place, known_head, chain_next, has_own, needs, heads_needs}
use Rattle.queue_rule.specs.Told.{HasOwn, HeadsAt, filled_by}
use Rattle.ix_base.proofs.EntryLaws.{IsEntryWords-kind}
use Rattle.atomic_table.proofs.Lists.{at_longer}
use Rattle.queue_rule.proofs.Viewing.{entry_seen}

each_from : {A : Type 0} (P : A → Type 0) (l : List A) → ((j : ℕ) (a : A) → get_elem? l j ≡ some a → P a) → Each P l
each_from P [] h = tt
each_from P (x ∷ l) h = (h 0 x refl, each_from P l (λ j a e. h (suc j) a e))

used_below : ℕ → List ChainEntry → ℕ
used_below zero es = 0
used_below (suc n) es = used n es + used_below n es

used_below_none : (n : ℕ) → used_below n [] ≡ 0
unfolding used_below
used_below_none zero = refl
used_below_none (suc n) = let h = used_below_none n in omega (arith, h)

past_seat : (n : ℕ) (e : ChainEntry) (es : List ChainEntry) → n ≤ e.seat → used_below n (e ∷ es) ≡ used_below n es
unfolding used_below
past_seat zero e es le = refl
past_seat (suc n) e es le = let h = past_seat n e es (omega (arith, le)) in let u : used n (e ∷ es) ≡ used n es = ap (λ (b : Bool). (if b then need e else 0) + used n es) (ne_eqb e.seat n (λ q. let z : ⊥ = omega (arith, q, le) in z)) ∙ omega arith in omega (arith, h, u)

at_seat : (n : ℕ) (e : ChainEntry) (es : List ChainEntry) → e.seat < n → used_below n (e ∷ es) ≡ need e + used_below n es
unfolding used_below
at_seat zero e es lt = absurd (omega (arith, lt))
at_seat (suc n) e es lt = dite (ℕ_discrete e.seat n)
    (λ is. let h = past_seat n e es (omega (arith, is)) in let u : used n (e ∷ es) ≡ need e + used n es = ap (λ (b : Bool). (if b then need e else 0) + used n es) (eq-eqb e.seat n is) in omega (arith, h, u))
    (λ other. let ne : e.seat ≢ n = other in let h = at_seat n e es (omega (arith, lt, ne)) in let u : used n (e ∷ es) ≡ used n es = ap (λ (b : Bool). (if b then need e else 0) + used n es) (ne_eqb e.seat n other) ∙ omega arith in omega (arith, h, u))

needs_below : (n : ℕ) (es : List ChainEntry) → ((j : ℕ) (e : ChainEntry) → get_elem? es j ≡ some e → e.seat < n) → needs es ≡ used_below n es
unfolding needs
needs_below n [] h = sym (used_below_none n)
needs_below n (e ∷ es) h = let r = needs_below n es (λ j x g. h (suc j) x g) in let a = at_seat n e es (h 0 e refl) in omega (arith, r, a)

long_needs : (es : List ChainEntry) → ((j : ℕ) (e : ChainEntry) → get_elem? es j ≡ some e → 0 < length e.words) → 2 * length es ≤ needs es
unfolding needs
long_needs [] h = omega arith
long_needs (e ∷ es) h = let r = long_needs es (λ j x g. h (suc j) x g) in let w = h 0 e refl in omega (arith, r, w)

below_room : (n : ℕ) (es : List ChainEntry) → ((i : ℕ) → used i es ≤ 16642) → used_below n es ≤ 16642 * n
unfolding used_below
below_room zero es h = omega arith
below_room (suc n) es h = let r = below_room n es h in let u = h n in omega (arith, r, u)

take_one : (es : List ChainEntry) (m : ℕ) → m < length es → (e : ChainEntry) × (get_elem? es m ≡ some e) × (take (suc m) es ≡ take m es ++ e ∷ [])
take_one [] m lt = absurd (omega (arith, lt))
take_one (x ∷ es) zero lt = (x, refl, refl)
take_one (x ∷ es) (suc m) lt = let r = take_one es m (omega (arith, lt)) in (r.0, r.1, ap (λ l. x ∷ l) r.2)

used_room : (k : ℕ) (ws : List ℕ) (es : List ChainEntry) → AllLie k ws es → (i m : ℕ) → m ≤ length es → used i (take m es) ≤ 16642
used_room k ws es lies i zero le = omega arith
used_room k ws es lies i (suc m) le =
    let h = used_room k ws es lies i m (omega (arith, le)) in
    let t = take_one es m (omega (arith, le)) in
    let e = t.0 in
    let l = lies m e t.1 in
    let room = l.room in
    let now : used i (take (suc m) es) ≡ used i (take m es) + used i (e ∷ []) = ap (used i) t.2 ∙ used_more i (take m es) e in
    dite (ℕ_discrete e.seat i)
    (λ is. let u : used e.seat (e ∷ []) ≡ need e = used_same e in let a : used e.seat (take m es) ≡ used i (take m es) = ap (λ (n : ℕ). used n (take m es)) is in let b : used e.seat (e ∷ []) ≡ used i (e ∷ []) = ap (λ (n : ℕ). used n (e ∷ [])) is in omega (arith, now, room, u, a, b))
    (λ other. let u = used_other i e other in omega (arith, now, h, u))

prefix_in : (xs ys r t : List ℕ) → xs ++ r ≡ ys ++ t → length xs ≤ length ys → (rest : List ℕ) × (ys ≡ xs ++ rest)
prefix_in [] ys r t e le = (ys, refl)
prefix_in (x ∷ xs) [] r t e le = absurd (omega (arith, le))
prefix_in (x ∷ xs) (y ∷ ys) r t e le = let p = prefix_in xs ys r t (ap (drop 1) e) (omega (arith, le)) in (p.0, ap₂ ◌∷◌ (sym (ap (λ l. get_or l 0 0) e)) p.1)

starts_in : (l xs ys : List ℕ) → Starts l xs → Starts l ys → length xs ≤ length ys → Starts ys xs
starts_in l xs ys a b le = prefix_in xs ys a.0 b.0 (sym a.1 ∙ b.1) le

no_heads : (v : View) (hs : List ℕ) → HeadsAt v [] hs → filled_by hs ≤ 16642 * v.seats
no_heads v [] h = omega arith
no_heads v (x ∷ hs) h = absurd h

module _ (k : ℕ) where
  pub sound : (s : State (Unit {0}) View) (r : Kept k s) (v : View) → Fits k s.words r.entries v → Sound v
  sound s r v f =
      let es = r.entries in
      let seats = f.seats in
      let low = f.number in
      let all_used : (i : ℕ) → used i es ≤ 16642 = λ i. subst (λ (l : List ChainEntry). used i l ≤ 16642) (take_all (length es) es (omega arith)) (used_room k s.words es r.lies i (length es) (omega arith)) in
      let count = long_needs es (λ j e g. has_words (r.lies j e g)) in
      let same = needs_below k es (λ j e g. (r.lies j e g).seat) in
      let most = below_room k es all_used in
      let len : length es ≡ length v.seen + length f.unseen = sym (length-map es at_of) ∙ (ap length f.seen ∙ length-append v.seen f.unseen) in
      let fill : filled v.own ≡ used v.number es = ap filled f.owns ∙ filled_own v.number 1 es in
      let room = f.room in record {
        number = omega (arith, low, seats);
        inside = each_from (λ (a : ℕ). (0 < a) × (a + 1 < start v.seats)) v.seen (λ j a g. let e = entry_seen es v.seen f.unseen j a f.seen g in let l = r.lies j e.0 e.1 in let seat = l.seat in let place = l.at in let fits = l.room in let some_words = has_words l in let is = e.2 in
            (omega (arith, place, is), omega (arith, seat, place, fits, some_words, is, seats)));
        room = omega (arith, fill, room);
        bound = omega (arith, count, same, most, len, seats);
        total = λ hs heads. let t = heads_needs es v v.seen f.unseen hs (λ j e got h read. let e_head = known_head k s.words es v r.lies f.known j (e.at) h e got refl read in let c = has_count (r.lies j e got) in let n : word_count (get_or e.words 0 0) ≡ word_count h = ap word_count e_head in omega (arith, c, n)) f.seen heads in omega (arith, t, same, most, seats);
        fits = λ j a h got read. let e = entry_seen es v.seen f.unseen j a f.seen got in let l = r.lies j e.0 e.1 in let c = has_count l in let n : word_count (get_or e.0.words 0 0) ≡ word_count h = ap word_count (known_head k s.words es v r.lies f.known j a h e.0 e.1 e.2 read) in
            let seat = l.seat in let place = l.at in let fits = l.room in let is = e.2 in omega (arith, seat, place, fits, is, c, n, seats);
        kinds = λ j a h got read. let e = entry_seen es v.seen f.unseen j a f.seen got in let l = r.lies j e.0 e.1 in
            subst (λ (n : ℕ). (1 ≤ head_kind n) × (head_kind n ≤ 7)) (known_head k s.words es v r.lies f.known j a h e.0 e.1 e.2 read) (IsEntryWords-kind e.0.words l.grammar);
        opens = λ j a h got more read. let e = entry_seen es v.seen f.unseen j a f.seen got in
            subst (λ (n : ℕ). head_kind n < 6) (known_head k s.words es v r.lies f.known j a h e.0 e.1 e.2 read) (r.opens j e.0 e.1 (omega (arith, len, more)));
        nexts = λ j a b x here behind read. let p = each_at (IsKnown s.words es) v.known f.known read.0 (known a x) read.1 in
            sym p.present ∙ chain_next s.words 0 (v.seen ++ f.unseen) j a b (subst (Chained s.words 0) f.seen r.chained) (at_longer (0 ∷ v.seen) f.unseen j a here) (at_longer v.seen f.unseen j b behind);
        owns = has_own es v f.unseen f.seen v.own v.number f.owns f.held;
        own_words = λ i o got. let at = own_place v.number 1 es i o (subst (λ (l : List Own). get_elem? l i ≡ some o) f.owns got) in subst IsEntryWords (sym (ap (λ (x : Own). x.words) at.4)) (r.lies at.0 at.1 at.2).grammar;
        old_owns = all_more (IsOld es v.known (length v.seen)) (λ (o : Old). HasOwn v o.own) v.olds (λ o h. has_own es v f.unseen f.seen o.own o.number h.owns h.held) f.olds;
        grammar = λ j a ws got has len read.
            let e = entry_seen es v.seen f.unseen j a f.seen got in
            let l = r.lies j e.0 e.1 in
            let place = e.2 in
            let word : (d : ℕ) → d < length ws → get_or s.words (a + 1 + d) 0 ≡ get_or ws d 0 = λ d lt. let k = read d lt in (each_at (IsKnown s.words es) v.known f.known k.0 (known (a + 1 + d) (get_or ws d 0)) k.1).present in
            let shift : (d : ℕ) → e.0.at + 1 + d ≡ a + 1 + d = λ d. omega (arith, place) in
            let same : (d : ℕ) → d < length e.0.words → d < length ws → get_or e.0.words d 0 ≡ get_or ws d 0 = λ d lt lt'. sym (l.spelled d lt) ∙ (ap (λ (n : ℕ). get_or s.words n 0) (shift d) ∙ word d lt') in
            let lens : length e.0.words ≡ length ws = has_count l ∙ (ap word_count (same 0 (has_words l) has) ∙ sym len) in
            subst IsEntryWords (ext_get_or 0 e.0.words ws lens (λ d lt. same d lt (omega (arith, lens, lt)))) l.grammar;
        met = all_more (IsOld es v.known (length v.seen)) (λ (o : Old). Starts v.seen o.seen × Starts v.seen o.mine) v.olds (λ o h. (starts_in (map at_of es) o.seen v.seen h.seen (f.unseen, f.seen) h.seen_short, starts_in (map at_of es) o.mine v.seen h.mine (f.unseen, f.seen) h.mine_short)) f.olds;
        blank = f.blank;
        agree = λ a x y one two. let p = each_at (IsKnown s.words es) v.known f.known one.0 (known a x) one.1 in let q = each_at (IsKnown s.words es) v.known f.known two.0 (known a y) two.1 in sym p.present ∙ q.present;
      }

  pub fresh_sound : (n : ℕ) (spares : List ℕ) → n < k → Sound (view_of k n spares [])
  fresh_sound n spares low = record {
    number = low;
    inside = tt;
    room = omega arith;
    bound = omega arith;
    total = λ hs heads. no_heads (view_of k n spares []) hs heads;
    fits = λ j a h got. absurd (some-ne-none a (sym got));
    kinds = λ j a h got. absurd (some-ne-none a (sym got));
    opens = λ j a h got. absurd (some-ne-none a (sym got));
    nexts = λ j a b x here behind. absurd (some-ne-none b (sym behind));
    owns = λ i o got. absurd (some-ne-none o (sym got));
    own_words = λ i o got. absurd (some-ne-none o (sym got));
    old_owns = tt;
    grammar = λ j a ws got. absurd (some-ne-none a (sym got));
    met = tt;
    blank = λ _. refl;
    agree = λ a x y one. absurd (some-ne-none (known a x) (sym one.1));
  }

  abbrev M : Type 0
  M = Me (Unit {0}) View

  -- a step that leaves the view live tells what is sound
  pub tells : (slots id : ℕ) (me : M) (i : ℕ) (f : ℕ → ℕ) (told : ℕ → M → Type 0) → ((n : ℕ) (m : M) → told n m → m.0.live ≡ true) → Allows (Kept k) slots id me i f told → Allows (Kept k) slots id me i f (λ n m. told n m × Sound m.0)
  tells slots id me i f told alive h s kept len at small =
      let r = h s kept len at small in
      let here = set_here s.views id r.0 (at_inside s.views id me.0 at) in
      (r.0, r.1, r.2, r.3, (r.4, sound _ r.3 r.0 (r.3.fits id r.0 here (alive _ _ r.4))))

  either_live : (b : Bool) (P Q : Type 0) (m : M) → (P → m.0.live ≡ true) → (Q → m.0.live ≡ true) → MatchBool b P Q → m.0.live ≡ true
  either_live true P Q m f g h = f h
  either_live false P Q m f g h = g h

  pub may_draft : (slots id : ℕ) (v : View) (cs : List (ℕ × Unit {0})) (word x : ℕ) → v.live ≡ true → draft_start v ≤ word → word ≤ draft_start v + length v.draft → word < start v.number + 16642
      → Allows (Kept k) slots id (v, cs) word (λ _. x) (λ _ m'. Drafted (step slots word x 0 none) (v, cs) x m' × Sound m'.0)
  may_draft slots id v cs word x live low high room = tells slots id (v, cs) word (λ _. x) (λ _. Drafted (step slots word x 0 none) (v, cs) x) (λ n m e. ap (λ (y : M). y.0.live) e ∙ live) (drafts k slots id v cs word x live low high room)

  pub may_try : (slots id : ℕ) (v : View) (cs : List (ℕ × Unit {0})) (ws : List ℕ) → v.live ≡ true → SawOpen v → v.draft ≡ 0 ∷ ws → IsEntryWords ws
      → Allows (Kept k) slots id (v, cs) (last_or 0 v.seen) (λ n. either (eqb n 0) (draft_start v) n) (λ n m'. Tried (step slots (last_or 0 v.seen) 0 (draft_start v) none) (v, cs) n m' × Sound m'.0)
  may_try slots id v cs ws live saw draft grammar = tells slots id (v, cs) (last_or 0 v.seen) (λ n. either (eqb n 0) (draft_start v) n) (Tried (step slots (last_or 0 v.seen) 0 (draft_start v) none) (v, cs))
      (λ n m h. either_live (eqb n 0) _ _ m (λ e. ap (λ (y : M). y.0.live) e ∙ live) (λ e. ap (λ (y : M). y.0.live) e.0 ∙ live) h) (tries k slots id v cs ws live saw draft grammar)

  pub may_look : (slots id : ℕ) (v : View) (cs : List (ℕ × Unit {0})) → v.live ≡ true
      → Allows (Kept k) slots id (v, cs) (last_or 0 v.seen) (λ n. n) (λ n m'. Looked (step slots (last_or 0 v.seen) 0 0 none) (v, cs) n m' × Sound m'.0)
  may_look slots id v cs live = tells slots id (v, cs) (last_or 0 v.seen) (λ n. n) (Looked (step slots (last_or 0 v.seen) 0 0 none) (v, cs))
      (λ n m h. either_live (eqb n 0) _ _ m (λ e. ap (λ (y : M). y.0.live) e.0 ∙ live) (λ e. ap (λ (y : M). y.0.live) e.0 ∙ live) h) (looks k slots id v cs live)

  pub may_read : (slots id : ℕ) (v : View) (cs : List (ℕ × Unit {0})) (a : ℕ) → v.live ≡ true → MayRead v a
      → Allows (Kept k) slots id (v, cs) a (λ n. n) (λ n m'. HasRead (step slots a 0 0 none) (v, cs) n m' × Sound m'.0)
  may_read slots id v cs a live may = tells slots id (v, cs) a (λ n. n) (HasRead (step slots a 0 0 none) (v, cs)) (λ n m e. ap (λ (y : M). y.0.live) e ∙ live) (reads k slots id v cs a live may)
