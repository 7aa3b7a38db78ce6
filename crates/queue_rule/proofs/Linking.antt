-- A compare-exchange on the next word of the last entry seen keeps the rule.
use Rattle.std.proofs.Common.{◌≡◌, ◌≢◌, ℕ, suc, ◌+◌, ◌<◌, ◌≤◌, ◌⊎◌, eqb, Bool, true, MatchBool, List, [], ◌∷◌, ◌++◌, append_assoc, append-nil, map, length, get_or, take, drop, set, sym, refl, ap, ◌∙◌, subst, ap₂, inl, inr, ⊎_elim, arith, eq-eqb, ne_eqb, get_or-set_other, length-set, length-append, lt_of_not-le}
use Rattle.std.proofs.lemmas.List.{set-get_or, length-map, length_push, map-append, take-append-le, take_all}
use mathlib.Core.Option.{some, none, some-injective, some-ne-none}
use mathlib.Core.Logic.{dite}
use native.Mathlib.Decide.{ℕ_discrete, dec_le, dec_lt}
use lib.ListN.{get_elem?}
use prog.Atomic.{either}
use Rattle.atomic_table.specs.Table.{State, Me, step, keeps, stepped, Allows, Act, Valid, carried_after}
use Rattle.atomic_table.proofs.Lists.{at_snoc, at_longer}
use Rattle.queue_rule.specs.declared.view.View.{View}
use Rattle.queue_rule.specs.declared.view.Known.{Known}
use Rattle.queue_rule.specs.declared.view.Old.{Old}
use Rattle.queue_rule.specs.Lists.{Each, times, last_or}
use Rattle.queue_rule.specs.Views.{numbers, more_numbers, draft_start, known, sees, links}
use Rattle.queue_rule.specs.Rule.{IsKnown, Fits, Kept}
use Rattle.queue_rule.specs.Chain.{ChainEntry, need, start, used, own, own_from, filled, IsOpen, Chained, Spelled, Lies, IsLinked, IsNext}
use Rattle.ix_base.specs.Words.{head_kind, IsEntryWords}
use Rattle.queue_rule.specs.Told.{SawOpen}
use Rattle.queue_rule.specs.Views.{Knows}
use Rattle.queue_rule.specs.Steps.{Tried}
use Rattle.queue_rule.proofs.Lists.{at_inside, all_more, used_take}
use Rattle.queue_rule.proofs.Chain.{has_words, AllLie, AllPast, is_past, linked_else}
use Rattle.queue_rule.proofs.Drafting.{with_views, apart, elsewhere, once_here, own_number, live_numbers, times_append, same_once, fit_set, filled_own}
use Rattle.queue_rule.specs.Views.{known_from, KnownFrom}
use Rattle.queue_rule.specs.Rule.{KnowsAll}
use Rattle.atomic_table.proofs.Lists.{at_last}
use Rattle.queue_rule.proofs.Lists.{at_end, each_append}
use Rattle.queue_rule.proofs.Knowing.{in_same, in_longer, in_behind, known_at, each_known, known_longer, held_longer, olds_longer}
use Rattle.queue_rule.proofs.Entries.{at_last_place, at_of, chained_last, chained_more, chained_split, each_at, entry_at, held_more, last_entry, lt_or_not, olds_more, own_else, own_more, own_same, payload_known, spares_more, spelled_else, take_before, used_more, used_other, used_same}

-- ---- the step

module _ (k : ℕ) where
  abbrev Views : Type 0
  Views = List View

  -- the words stay, and one view changes
  pub stays : (s : State (Unit {0}) View) (r : Kept k s) (i id : ℕ) (v w : View) (cs : List (ℕ × Unit {0})) → get_elem? s.views id ≡ some v → numbers w ≡ numbers v → Fits k s.words r.entries w
      → Kept k (stepped s i (get_or s.words i 0) id cs w keeps)
  stays s r i id v w cs at same mine = subst (λ (ws : List ℕ). Kept k record { words = ws; homes = s.homes; views = set s.views id w }) (sym (set-get_or s.words i 0))
      (with_views k s r (set s.views id w) (same_once k s r id v w at same) (fit_set k s.words r.entries s.views id w mine (λ j u _ got live. r.fits j u got live)))

  -- an entry was found behind the last one seen
  pub found_more : (s : State (Unit {0}) View) (r : Kept k s) (v : View) (a : ℕ) (rest : List ℕ) → (f : Fits k s.words r.entries v) → f.unseen ≡ a ∷ rest
      → (get_or s.words (last_or 0 v.seen) 0 ≡ a) × (0 < a) × (a + 1 < start k) × Fits k s.words r.entries (sees v a)
  found_more s r v a rest f is =
      let whole : map at_of r.entries ≡ v.seen ++ a ∷ rest = f.seen ∙ ap (λ l. v.seen ++ l) is in
      let behind = chained_split s.words 0 v.seen (a ∷ rest) (subst (Chained s.words 0) whole r.chained) in
      let e = entry_at r.entries v.seen a rest whole in
      let l = r.lies (length v.seen) e.0 e.1 in
      let seat = l.seat in let place = l.at in let room = l.room in let some_words = has_words l in let same = e.2 in (
        behind.0,
        behind.1,
        omega (arith, seat, place, room, some_words, same),
        record {
          number = f.number;
          seats = f.seats;
          owns = f.owns;
          held = held_longer r.entries v.known v.known (length v.seen) (length (v.seen ++ a ∷ [])) v.number (in_same v.known) (let n = length_push v.seen a in omega (arith, n)) f.held;
          olds = olds_longer r.entries v.known v.known (length v.seen) (length (v.seen ++ a ∷ [])) v.olds (in_same v.known) (let n = length_push v.seen a in omega (arith, n)) f.olds;
          blank = λ z. let n = length_push v.seen a in absurd (omega (arith, n, z));
          spares = f.spares;
          room = f.room;
          draft = f.draft;
          unseen = rest;
          seen = whole ∙ sym (append_assoc v.seen (a ∷ []) rest);
          known = f.known;
        },
      )

  linked_more : (es : List ChainEntry) (e : ChainEntry) (a : ℕ) → IsLinked es a → IsLinked (es ++ e ∷ []) a
  linked_more es e a h = ⊎_elim (λ (z : a ≡ 0). inl z) (λ (t : (j : ℕ) × (x : ChainEntry) × (get_elem? es j ≡ some x) × (x.at ≤ a) × (a < x.at + need x)). inr (t.0, t.1, at_longer es (e ∷ []) t.0 t.1 t.2, t.3, t.4)) h

  -- what was known stays so, where an entry e is linked behind the last one
  known_more : (ws : List ℕ) (es : List ChainEntry) (e : ChainEntry) (last x : ℕ) (o : Known) → get_or ws last 0 ≡ 0 → IsNext es last → (IsLinked es e.at → ⊥) → IsKnown ws es o → IsKnown (set ws last x) (es ++ e ∷ []) o
  known_more ws es e last x o zero_there next fresh h =
      let other : o.at ≢ last = λ is. h.stays (subst (IsNext es) (sym is) next) (sym h.present ∙ (ap (λ (i : ℕ). get_or ws i 0) is ∙ zero_there)) in record {
        linked = linked_more es e o.at h.linked;
        present = get_or-set_other ws last o.at x 0 other ∙ h.present;
        stays = λ n. ⊎_elim (λ (z : o.at ≡ 0). h.stays (inl z))
            (λ (t : (j : ℕ) × (y : ChainEntry) × (get_elem? (es ++ e ∷ []) j ≡ some y) × (y.at ≡ o.at)). ⊎_elim (λ (old : get_elem? es t.0 ≡ some t.1). h.stays (inr (t.0, t.1, old, t.3)))
            (λ (new : e ≡ t.1). absurd (fresh (subst (IsLinked es) (sym (ap at_of new ∙ t.3)) h.linked))) (at_snoc es e t.1 t.0 t.2)) n;
      }

  -- the last next word is none of the words of the entries
  last_past : (ws : List ℕ) (es : List ChainEntry) → AllLie k ws es → (j : ℕ) (e : ChainEntry) → get_elem? es j ≡ some e → (last_or 0 (map at_of es) < e.at + 1) ⊎ (e.at + need e ≤ last_or 0 (map at_of es))
  last_past ws es lies j e got = ⊎_elim (λ (none : es ≡ []). absurd (some-ne-none e (sym (subst (λ (l : List ChainEntry). get_elem? l j ≡ some e) none got))))
      (λ (t : (y : ChainEntry) × (i : ℕ) × (get_elem? es i ≡ some y) × (i + 1 ≡ length es) × (last_or 0 (map at_of es) ≡ y.at)).
      let y = t.0 in let i = t.1 in let len = t.3 in let is = t.4 in let ly = lies i y t.2 in let le = lies j e got in
      let in_j = at_inside es j e got in
      let place_y = ly.at in let room_y = ly.room in let place_e = le.at in let room_e = le.room in
      dite (ℕ_discrete j i)
      (λ same. let both : y ≡ e = some-injective y e (sym t.2 ∙ (ap (get_elem? es) (sym same) ∙ got)) in let eq = ap at_of both in inl (omega (arith, is, eq)))
      (λ other. let before : j < i = omega (arith, in_j, len, other) in
      let cut = take_before es i j e got before in
      let in_front = used_take (take i es) j e cut.0 in
      let front_is : take j (take i es) ≡ take j es = cut.1 in
      let front_used : used e.seat (take j (take i es)) ≡ used e.seat (take j es) = ap (used e.seat) front_is in
      dite (ℕ_discrete e.seat y.seat)
      (λ seat. let su : used e.seat (take i es) ≡ used y.seat (take i es) = ap (λ (n : ℕ). used n (take i es)) seat in inr (omega (arith, is, place_y, place_e, in_front, front_used, seat, su)))
      (λ apart. dite (dec_le e.seat y.seat) (λ low. inr (let ne : e.seat ≢ y.seat = apart in omega (arith, is, place_y, place_e, room_e, low, ne)))
      (λ high. let above : y.seat < e.seat = lt_of_not-le high in let ny : 0 < need y = omega arith in inl (omega (arith, is, place_y, room_y, place_e, above, ny))))))
      (last_entry es 0)

  -- the draft of v becomes an entry behind the last one
  pub linked : (s : State (Unit {0}) View) (r : Kept k s) (id : ℕ) (v : View) (cs : List (ℕ × Unit {0})) (ws : List ℕ) → get_elem? s.views id ≡ some v → v.live ≡ true → (f : Fits k s.words r.entries v) → f.unseen ≡ []
      → SawOpen v → v.draft ≡ 0 ∷ ws → IsEntryWords ws → Kept k (stepped s (last_or 0 v.seen) (draft_start v) id cs (links v) keeps)
  linked s r id v cs ws at alive f is saw draft grammar =
      let es = r.entries in
      let i = v.number in
      let a : ℕ = draft_start v in
      let last : ℕ = last_or 0 v.seen in
      let same : filled v.own ≡ used i es = ap filled f.owns ∙ filled_own i 1 es in
      let number = f.number in
      let room = f.room in
      let draft_len : length v.draft ≡ length ws + 1 = ap length draft ∙ omega arith in
      let whole : map at_of es ≡ v.seen = f.seen ∙ (ap (λ l. v.seen ++ l) is ∙ append-nil v.seen) in
      let places : length es ≡ length v.seen = sym (length-map es at_of) ∙ ap length whole in
      let last_is : last_or 0 (map at_of es) ≡ last = ap (last_or 0) whole in
      let e : ChainEntry = record { seat = i; at = a; words = ws } in
      let zero_there : get_or s.words last 0 ≡ 0 = subst (λ (p : ℕ). get_or s.words p 0 ≡ 0) last_is (chained_last s.words 0 (map at_of es) r.chained) in
      let past : (b : ℕ) → a ≤ b → b < a + length v.draft → AllPast b es = λ b low high. is_past k s.words es i b r.lies (omega (arith, same, low)) (omega (arith, same, room, high)) in
      let next : IsNext es last = ⊎_elim (λ (none : es ≡ []). inl (sym last_is ∙ ap (λ l. last_or 0 (map at_of l)) none))
      (λ (t : (y : ChainEntry) × (j : ℕ) × (get_elem? es j ≡ some y) × (j + 1 ≡ length es) × (last_or 0 (map at_of es) ≡ y.at)). inr (t.1, t.0, t.2, sym t.4 ∙ last_is)) (last_entry es 0) in
      let next_linked : IsLinked es last = ⊎_elim (λ (z : last ≡ 0). inl z) (λ (t : (j : ℕ) × (y : ChainEntry) × (get_elem? es j ≡ some y) × (y.at ≡ last)). let p = t.3 in inr (t.0, t.1, t.2, omega (arith, p), omega (arith, p))) next in
      let else_where : (b : ℕ) → a ≤ b → b < a + length v.draft → last ≢ b = λ b low high. linked_else es b last (past b low high) (omega (arith, low)) next_linked in
      let fresh : IsLinked es a → ⊥ = λ l. linked_else es a a (past a (omega arith) (omega (arith, draft_len))) (omega arith) l refl in
      let inside : last < length s.words = ⊎_elim (λ (z : last ≡ 0). let long = r.long in omega (arith, z, long))
      (λ (t : (j : ℕ) × (y : ChainEntry) × (get_elem? es j ≡ some y) × (y.at ≡ last)). let l = r.lies t.0 t.1 t.2 in let seat = l.seat in let place = l.at in let fits = l.room in let p = t.3 in let long = r.long in omega (arith, seat, place, fits, p, long)) next in
      let zero_a : get_or s.words a 0 ≡ 0 = ap (λ (n : ℕ). get_or s.words n 0) (omega (arith, same)) ∙ (f.draft 0 (omega (arith, draft_len)) ∙ ap (λ l. get_or l 0 0) draft) in
      let spelled : Spelled (set s.words last a) (a + 1) ws = λ j l. let b : ℕ = a + 1 + j in
      get_or-set_other s.words last b a 0 (λ q. else_where b (omega arith) (omega (arith, draft_len, l)) (sym q))
      ∙ (ap (λ (n : ℕ). get_or s.words n 0) (omega (arith, same)) ∙ (f.draft (suc j) (omega (arith, draft_len, l)) ∙ ap (λ m. get_or m (suc j) 0) draft)) in
      let used_now : used i (es ++ e ∷ []) ≡ used i es + (length ws + 1) = used_more i es e ∙ ap (λ (n : ℕ). used i es + n) (used_same e) in
      let entries = es ++ e ∷ [] in
      let chain_now : map at_of entries ≡ map at_of es ++ a ∷ [] = map-append at_of es (e ∷ []) in
      let chained : Chained (set s.words last a) 0 (map at_of entries) = subst (Chained (set s.words last a) 0) (sym chain_now)
      (subst (λ (p : ℕ). Chained (set s.words p a) 0 (map at_of es ++ a ∷ [])) last_is
      (chained_more s.words 0 (map at_of es) a r.chained (subst (λ (p : ℕ). p < length s.words) (sym last_is) inside) (omega arith) (λ q. else_where a (omega arith) (omega (arith, draft_len)) (sym (q ∙ last_is))) zero_a)) in
      let lies : AllLie k (set s.words last a) entries = λ j y got. ⊎_elim
      (λ (old : get_elem? es j ≡ some y). let l = r.lies j y old in let place = at_inside es j y old in
      let p = last_past s.words es r.lies j y old in subst (λ (b : List ChainEntry). Lies k (set s.words last a) b y) (sym (take-append-le j es (e ∷ []) (omega (arith, place)))) record {
        seat = l.seat;
        at = l.at;
        room = l.room;
        spelled = spelled_else s.words last a (y.at + 1) y.words l.spelled (λ m lt q. ⊎_elim (λ (low : last_or 0 (map at_of es) < y.at + 1). let z : ⊥ = omega (arith, low, q, last_is) in z)
            (λ (high : y.at + need y ≤ last_or 0 (map at_of es)). let z : ⊥ = omega (arith, high, q, last_is, lt) in z) p);
        grammar = l.grammar;
      })
      (λ (new : (j ≡ length es) × (e ≡ y)). subst (λ (z : ChainEntry). Lies k (set s.words last a) (take j entries) z) new.1
      (subst (λ (b : List ChainEntry). Lies k (set s.words last a) b e) (sym (ap (λ (n : ℕ). take n entries) new.0 ∙ (take-append-le (length es) es (e ∷ []) (omega arith) ∙ take_all (length es) es (omega arith)))) record {
        seat = number;
        at = ap (λ (n : ℕ). start i + n) same;
        room = omega (arith, room, draft_len);
        spelled = spelled;
        grammar = grammar;
      })) (at_end es e y j got) in
      let opens : (j : ℕ) (y : ChainEntry) → get_elem? entries j ≡ some y → j + 1 < length entries → IsOpen y.words = λ j y got more. let len = length-append es (e ∷ []) in ⊎_elim
      (λ (old : get_elem? es j ≡ some y). dite (dec_lt (j + 1) (length es)) (λ lt. r.opens j y old lt)
      (λ end. let place = at_inside es j y old in let last_j : j + 1 ≡ length es = let ge = lt_or_not (j + 1) (length es) end in omega (arith, place, ge) in
      let y_at : y.at ≡ last = at_last_place es j y old last_j ∙ last_is in
      ⊎_elim (λ (none : v.seen ≡ []). let n : length v.seen ≡ 0 = ap length none in let z : ⊥ = omega (arith, n, places, last_j) in absurd z)
      (λ (t : (h : ℕ) × Knows v (last + 1) h × (head_kind h < 6)).
      let known_h = each_at (IsKnown s.words es) v.known f.known t.1.0 (known (last + 1) t.0) t.1.1 in
      let l = r.lies j y old in
      let head : get_or y.words 0 0 ≡ t.0 = sym (l.spelled 0 (has_words l)) ∙ (ap (λ (n : ℕ). get_or s.words n 0) (omega (arith, y_at)) ∙ known_h.present) in
      subst (λ (h : ℕ). head_kind h < 6) (sym head) t.2) saw))
      (λ (new : (j ≡ length es) × (e ≡ y)). let end = new.0 in absurd (omega (arith, more, len, end))) (at_end es e y j got) in
      let mine_number = own_number v alive in
      let mine_once = once_here k s r id v i at f.number in
      let mine_split = times_append i (map (λ (o : Old). o.number) v.olds) v.spares in
      let none_else : times i (map (λ (o : Old). o.number) v.olds) + times i v.spares ≡ 0 = omega (arith, mine_number, mine_once, mine_split) in
      let w = links v in
      let own_now : w.own ≡ own_from i 1 entries = ap (λ l. l ++ own (length v.seen + 1) (drop 1 v.draft) ∷ []) f.owns
      ∙ (ap (λ o. own_from i 1 es ++ o ∷ []) (ap₂ own (omega (arith, places)) (ap (drop 1) draft)) ∙ (ap (λ l. own_from i 1 es ++ l) (sym (own_same e (1 + length es))) ∙ sym (own_more i 1 es e))) in
      let payload : drop 1 v.draft ≡ ws = ap (drop 1) draft in
      let last_at : get_elem? entries (length es) ≡ some e = at_last es e (length es) refl in
      let known_now : Each (IsKnown (set s.words last a) entries) (known_from (a + 1) (drop 1 v.draft)) = subst (λ l. Each (IsKnown (set s.words last a) entries) (known_from (a + 1) l)) (sym payload)
      (each_known (IsKnown (set s.words last a) entries) (a + 1) ws (λ d lt. subst (λ (x : ℕ). IsKnown (set s.words last a) entries (known (a + 1 + d) x)) (spelled d lt) (payload_known k (set s.words last a) entries lies (length es) d e last_at lt))) in
      let own_known : KnownFrom w.known (a + 1) ws = known_longer (known_from (a + 1) (drop 1 v.draft)) w.known (a + 1) ws (in_behind v.known (known_from (a + 1) (drop 1 v.draft)))
      (subst (λ l. KnownFrom (known_from (a + 1) l) (a + 1) ws) (sym payload) (known_at (a + 1) ws)) in
      let held_now : KnowsAll entries w.known (length (v.seen ++ a ∷ [])) i = λ j y got is_seat. let n = length_push v.seen a in ⊎_elim
      (λ (old : get_elem? es j ≡ some y). held_longer es v.known w.known (length v.seen) (length (v.seen ++ a ∷ [])) i (in_longer v.known (known_from (a + 1) (drop 1 v.draft))) (omega (arith, n)) f.held j y old is_seat)
      (λ (new : (j ≡ length es) × (e ≡ y)). let end = new.0 in (omega (arith, end, n, places), subst (λ (z : ChainEntry). KnownFrom w.known (z.at + 1) z.words) new.1 own_known)) (at_end es e y j got) in
      let mine : Fits k (set s.words last a) entries w = record {
        number = f.number;
        seats = f.seats;
        owns = own_now;
        held = held_now;
        olds = olds_more es e v.known w.known (length v.seen) (length (v.seen ++ a ∷ [])) v.olds (in_longer v.known (known_from (a + 1) (drop 1 v.draft))) (let n = length_push v.seen a in omega (arith, n)) (omega (arith, none_else)) f.olds;
        blank = λ z. let n = length_push v.seen a in absurd (omega (arith, n, z));
        spares = spares_more k es e v.spares (omega (arith, none_else)) f.spares;
        room = omega (arith, used_now, room, draft_len);
        draft = λ j l. absurd (omega (arith, l));
        unseen = [];
        seen = chain_now ∙ (ap (λ l. l ++ a ∷ []) whole ∙ sym (append-nil (v.seen ++ a ∷ [])));
        known = each_append (IsKnown (set s.words last a) entries) v.known (known_from (a + 1) (drop 1 v.draft)) (all_more (IsKnown s.words es) (IsKnown (set s.words last a) entries) v.known (λ o. known_more s.words es e last a o zero_there next fresh) f.known) known_now;
      } in
      let others : (j : ℕ) (u : View) → j ≢ id → get_elem? s.views j ≡ some u → u.live ≡ true → Fits k (set s.words last a) entries u = λ j u other got live.
      let g = r.fits j u got live in
      let ne : u.number ≢ i = apart k s r id j v u at got other alive live f.number in
      let none_u : times i (numbers u) ≡ 0 = elsewhere k s r id j v u i at got other f.number (omega (arith, mine_number)) in
      let none_split = times_append i (map (λ (o : Old). o.number) u.olds) u.spares in
      let none_list : times i (u.number ∷ more_numbers u) ≡ 0 = ap (times i) (sym (live_numbers u live)) ∙ none_u in
      let none_there : times i (map (λ (o : Old). o.number) u.olds) + times i u.spares ≡ 0 = omega (arith, none_split, none_list) in
      let room_u = g.room in
      let used_u : used u.number entries ≡ used u.number es = used_more u.number es e ∙ (ap (λ (n : ℕ). used u.number es + n) (used_other u.number e (λ q. ne (sym q))) ∙ omega arith) in
      record {
        number = g.number;
        seats = g.seats;
        owns = g.owns ∙ sym (own_else es e u.number ne);
        held = held_more es e u.known u.known (length u.seen) (length u.seen) u.number (in_same u.known) (omega arith) ne g.held;
        olds = olds_more es e u.known u.known (length u.seen) (length u.seen) u.olds (in_same u.known) (omega arith) (omega (arith, none_there)) g.olds;
        blank = g.blank;
        spares = spares_more k es e u.spares (omega (arith, none_there)) g.spares;
        room = omega (arith, used_u, room_u);
        draft = subst (λ (n : ℕ). Spelled (set s.words last a) (start u.number + n) u.draft) (sym used_u)
            (spelled_else s.words last a (start u.number + used u.number es) u.draft g.draft (λ m lt q. linked_else es (start u.number + used u.number es + m) last
            (is_past k s.words es u.number (start u.number + used u.number es + m) r.lies (omega arith) (omega (arith, lt, room_u))) (omega arith) next_linked (sym q)));
        unseen = g.unseen ++ a ∷ [];
        seen = chain_now ∙ (ap (λ l. l ++ a ∷ []) g.seen ∙ append_assoc u.seen g.unseen (a ∷ []));
        known = all_more (IsKnown s.words es) (IsKnown (set s.words last a) entries) u.known (λ o. known_more s.words es e last a o zero_there next fresh) g.known;
      } in record {
        entries = entries;
        long = length-set s.words last a ∙ r.long;
        chained = chained;
        lies = lies;
        opens = opens;
        once = same_once k s r id v w at refl;
        fits = fit_set k (set s.words last a) entries s.views id w mine others;
      }

  -- the new view and act, whatever the word is found to be
  abbrev Made : State (Unit {0}) View → ℕ → ℕ → View → List (ℕ × Unit {0}) → ℕ → ℕ → Type 0
  Made s slots id v cs n m = (w : View) × (b : Act (Unit {0})) × Valid s.homes cs b × Kept k (stepped s (last_or 0 v.seen) m id cs w b) × Tried (step slots (last_or 0 v.seen) 0 (draft_start v) none) (v, cs) n (w, carried_after cs b)

  abbrev pub Same : View → View → List (ℕ × Unit {0}) → Type 0
  Same w u cs = ◌≡◌ {A = Me (Unit {0}) View} (w, cs) (u, cs)

  made : (s : State (Unit {0}) View) (r : Kept k s) (slots id : ℕ) (v : View) (cs : List (ℕ × Unit {0})) (ws : List ℕ) → get_elem? s.views id ≡ some v → v.live ≡ true → (f : Fits k s.words r.entries v)
      → SawOpen v → v.draft ≡ 0 ∷ ws → IsEntryWords ws → (u : List ℕ) → f.unseen ≡ u → (n : ℕ) → n ≡ get_or s.words (last_or 0 v.seen) 0 → Made s slots id v cs n (either (eqb n 0) (draft_start v) n)
  made s r slots id v cs ws at alive f saw draft grammar [] is n n_is =
      let zero_there : n ≡ 0 = n_is ∙ chained_split s.words 0 v.seen [] (subst (Chained s.words 0) (f.seen ∙ ap (λ l. v.seen ++ l) is) r.chained) in
      let hit = eq-eqb n 0 zero_there in
      subst (Made s slots id v cs n) (ap (λ (b : Bool). either b (draft_start v) n) (sym hit)) (
        links v,
        keeps,
        tt,
        linked s r id v cs ws at alive f is saw draft grammar,
        subst (λ (b : Bool). MatchBool b (Same (links v) (links v) cs) (Same (links v) (sees v n) cs × (n + 1 < start v.seats))) (sym hit) refl,
      )
  made s r slots id v cs ws at alive f saw draft grammar (a ∷ tail) is n n_is =
      let more = found_more s r v a tail f is in
      let n_a : n ≡ a = n_is ∙ more.0 in
      let some_a = more.1 in
      let low = more.2 in
      let seats = f.seats in
      let miss = ne_eqb n 0 (λ z. let x : ⊥ = omega (arith, z, n_a, some_a) in x) in
      subst (Made s slots id v cs n) (ap (λ (b : Bool). either b (draft_start v) n) (sym miss)) (
        sees v n,
        keeps,
        tt,
        subst (λ (m : ℕ). Kept k (stepped s (last_or 0 v.seen) m id cs (sees v n) keeps)) (sym n_is)
            (stays s r (last_or 0 v.seen) id v (sees v n) cs at refl (subst (λ (m : ℕ). Fits k s.words r.entries (sees v m)) (sym n_a) more.3)),
        subst (λ (b : Bool). MatchBool b (Same (sees v n) (links v) cs) (Same (sees v n) (sees v n) cs × (n + 1 < start v.seats))) (sym miss) (refl, omega (arith, n_a, low, seats)),
      )

  -- the step, whatever the table is when it comes
  pub tries : (slots id : ℕ) (v : View) (cs : List (ℕ × Unit {0})) (ws : List ℕ) → v.live ≡ true → SawOpen v → v.draft ≡ 0 ∷ ws → IsEntryWords ws
      → Allows (Kept k) slots id (v, cs) (last_or 0 v.seen) (λ n. either (eqb n 0) (draft_start v) n) (Tried (step slots (last_or 0 v.seen) 0 (draft_start v) none) (v, cs))
  tries slots id v cs ws live saw draft grammar s r _ at _ = let f = r.fits id v at live in made s r slots id v cs ws at live f saw draft grammar f.unseen refl (get_or s.words (last_or 0 v.seen) 0) refl
