-- Each kind of step keeps the rule.
use Rattle.std.proofs.Common.{◌≡◌, ◌≢◌, ◌∙◌, ◌⊎◌, ℕ, zero, suc, ◌+◌, ◌<◌, ◌==◌, Bool, true, false, List, [], ◌∷◌, ◌++◌, length, map, set, refl, sym, ap, subst, inl, ⊎_elim, arith, true≢false}
use Rattle.std.specs.Prelude.{Option, Some, None, slice_index}
use Rattle.std.proofs.lemmas.List.{length-set, get_or-set_same, get_or-set_other}
use mathlib.Core.Option.{some, none, some-ne-none, some-injective}
use mathlib.Core.Option.{Option as Home}
use mathlib.Core.Logic.{dite}
use native.Mathlib.Decide.{ℕ_discrete}
use prog.Atomic.{either}
use lib.ListN.{get_elem?}
use Rattle.atomic_table.specs.Table.{State, Act, Valid, stepped, carried_after, put_back, keeps, takes, gives, rest}
use Rattle.atomic_table.proofs.Lists.{at_set, set_here, set_else, at_longer, at_last}
use Rattle.door_pool.specs.declared.view.View.{View}
use Rattle.door_pool.specs.Views.{deed_at, taken_at, with_taken, after_found, after_enter, after_leave, after_take, after_split, next_pass, doors_in, keeper_of}
use Rattle.door_pool.specs.Rule.{Kept, Fits, HoldsHand, HasView, word_of}
use Rattle.door_pool.specs.Steps.{Enters, Takes}
use Rattle.door_pool.specs.Passes.{AreFresh}
use Rattle.door_pool.specs.Laws.{OpeningKept, EnterKept, LeaveKept, TakeKept, BellOrCountKept, SplitKept}
use Rattle.door_pool.proofs.Words.{bool_cases, at_end, at, at_same, at_other, at_each, deed_stays, taken_here, taken_else, doors_many}

-- the number that was stored in a word, and the words beside it
word_here : (ws : List ℕ) (i x : ℕ) → i < length ws → slice_index (set ws i x) i ≡ x
word_here ws i x lt = get_or-set_same ws i x 0 lt

word_else : (ws : List ℕ) (i j x : ℕ) → j ≢ i → slice_index (set ws i x) j ≡ slice_index ws j
word_else ws i j x ne = get_or-set_other ws i j x 0 ne

same_words : (ws : List ℕ) (i x : ℕ) → i < length ws → slice_index ws i ≡ x → (c : ℕ)
    → slice_index (set ws i x) (c + 2) ≡ slice_index ws (c + 2)
same_words ws i x lt is c =
    dite (ℕ_discrete (c + 2) i) (λ (e : c + 2 ≡ i). subst (λ (j : ℕ). slice_index (set ws i x) j ≡ slice_index ws j) (sym e) (word_here ws i x lt ∙ sym is))
    (λ (ne : c + 2 ≢ i). word_else ws i (c + 2) x ne)

there : {A : Type 0} (l : List A) (i : ℕ) (a : A) → get_elem? l i ≡ some a → i < length l
there [] i a h = absurd (some-ne-none a (sym h))
there (x ∷ xs) zero a h = omega arith
there (x ∷ xs) (suc i) a h = let r = there xs i a h in omega (arith, r)

-- a view that is there, where another takes the place of one
pub view_stays : {V : Type 0} (views : List V) (id j : ℕ) (v w : V) (P : V → Type 0) → get_elem? views id ≡ some v → (P v → P w)
    → HasView views j P → HasView (set views id w) j P
view_stays views id j v w P is same has =
    dite (ℕ_discrete j id)
    (λ (e : j ≡ id). (
      w,
      subst (λ (i : ℕ). get_elem? (set views id w) i ≡ some w) (sym e) (set_here views id w (there views id v is)),
      same (subst P (some-injective has.0 v (sym has.1 ∙ ap (λ (i : ℕ). get_elem? views i) e ∙ is)) has.2),
    ))
    (λ (ne : j ≢ id). (has.0, set_else views id j w ne ∙ has.1, has.2))

-- and where one more is put behind all
pub view_before : {V : Type 0} (views : List V) (j : ℕ) (w : V) (P : V → Type 0) → HasView views j P → HasView (views ++ w ∷ []) j P
view_before views j w P has = (has.0, at_longer views (w ∷ []) j has.0 has.1, has.2)

pub view_last : {V : Type 0} (views : List V) (w : V) (P : V → Type 0) → P w → HasView (views ++ w ∷ []) (length views) P
view_last views w P is = (w, at_last views w (length views) refl, is)

-- the view is the same pass as before, or the keeper as before
pub record SameSeat {D T : Type 0} (v w : View D T) : Type 0 where
  pub is_pass : v.is_pass ≡ true → w.is_pass ≡ true
  pub door : v.door ≡ w.door
  pub is_keeper : v.is_keeper ≡ true → w.is_keeper ≡ true

-- so the keeper and all passes are there still
pub keeper_stays : {D T : Type 0} (views : List (View D T)) (id j : ℕ) (v w : View D T) → get_elem? views id ≡ some v → SameSeat v w
    → HasView views j (λ u. u.is_keeper ≡ true) → HasView (set views id w) j (λ u. u.is_keeper ≡ true)
keeper_stays views id j v w is same = view_stays views id j v w (λ u. u.is_keeper ≡ true) is same.is_keeper

pub pass_stays : {D T : Type 0} (views : List (View D T)) (id j c : ℕ) (v w : View D T) → get_elem? views id ≡ some v → SameSeat v w
    → HasView views j (λ u. (u.is_pass ≡ true) × (u.door ≡ c)) → HasView (set views id w) j (λ u. (u.is_pass ≡ true) × (u.door ≡ c))
pass_stays views id j c v w is same =
    view_stays views id j v w (λ u. (u.is_pass ≡ true) × (u.door ≡ c)) is (λ p. (same.is_pass p.0, sym same.door ∙ p.1))

module _ {H D T : Type 0} (deed_of : H → D) (told_of : H → List T) where
  abbrev Held : ℕ → State (Option H) (View D T) → Type 0
  Held = Kept deed_of told_of

  abbrev IsAt : List (Home (Option H)) → ℕ → Option D → List T → Type 0
  IsAt = HoldsHand deed_of told_of

  -- a step that changes no door
  pub steady : (n id : ℕ) (v w : View D T) (s : State (Option H) (View D T)) (words : List ℕ) → (k : Held n s)
      → length words ≡ length s.words → ((c : ℕ) → slice_index words (c + 2) ≡ slice_index s.words (c + 2))
      → get_elem? s.views id ≡ some v → SameSeat v w
      → (Fits n k.keeper k.made k.holder k.deed k.told k.inside k.taken id v
      → Fits n k.keeper k.made k.holder k.deed k.told k.inside k.taken id w)
      → Held n record { words = words; homes = s.homes; views = set s.views id w }
  steady n id v w s words k long same is one_seat fit = record {
    long = long ∙ k.long;
    keeper = k.keeper;
    made = k.made;
    holder = k.holder;
    deed = k.deed;
    told = k.told;
    inside = k.inside;
    taken = k.taken;
    word = λ c lt. same c ∙ k.word c lt;
    one = k.one;
    at_home = k.at_home;
    away = k.away;
    later = k.later;
    keeper_there = keeper_stays s.views id k.keeper v w is one_seat k.keeper_there;
    passes_there = λ c lt. pass_stays s.views id (k.holder c) c v w is one_seat (k.passes_there c lt);
    fits = λ j u got. ⊎_elim
        (λ (t : (j ≡ id) × (w ≡ u)).
        subst (λ (y : ℕ × View D T). Fits n k.keeper k.made k.holder k.deed k.told k.inside k.taken y.0 y.1)
        (λ i. (sym t.0 i, t.1 i)) (fit (k.fits id v is)))
        (λ (t : (j ≢ id) × (get_elem? s.views j ≡ some u)). k.fits j u t.1) (at_set s.views id j w u got);
  }

  -- a pass changes its door's word, its slot, and what its view says of them
  pub pass_moves : (n id : ℕ) (v : View D T) (inside : Bool) (told : List T) (found tries : ℕ) (homes : List (Home (Option H)))
      (s : State (Option H) (View D T)) → (k : Held n s) → v.is_pass ≡ true → v.is_keeper ≡ false
      → get_elem? s.views id ≡ some v → k.taken v.door ≡ false
      → ((c : ℕ) → c ≢ v.door → get_elem? homes c ≡ get_elem? s.homes c)
      → (inside ≡ false → IsAt homes v.door (k.deed v.door) told)
      → (inside ≡ true → get_elem? homes v.door ≡ some none)
      → Held n record {
        words = set s.words (v.door + 2) (word_of inside false);
        homes = homes;
        views = set s.views id (record v { inside = inside; told = told; found = found; tries = tries });
      }
  pass_moves n id v inside told found tries homes s k passes rests is free others home away =
      let mine = (k.fits id v is).pass passes in
      let d = v.door in
      let w : View D T = record v { inside = inside; told = told; found = found; tries = tries } in
      let now_inside = at k.inside d inside in
      let now_told = at k.told d told in
      let one_seat : SameSeat v w = record { is_pass = λ p. p; door = refl; is_keeper = λ p. p } in
      record {
        long = length-set s.words (d + 2) (word_of inside false) ∙ k.long;
        keeper = k.keeper;
        made = k.made;
        holder = k.holder;
        deed = k.deed;
        told = now_told;
        inside = now_inside;
        taken = k.taken;
        word = at_each k.inside d inside
            (λ (c : ℕ) (b : Bool). c < n → slice_index (set s.words (d + 2) (word_of inside false)) (c + 2) ≡ word_of b (k.taken c))
            (λ lt. word_here s.words (d + 2) (word_of inside false) (let long = k.long in omega (arith, lt, long))
            ∙ ap (word_of inside) (sym free))
            (λ c ne lt. word_else s.words (d + 2) (c + 2) (word_of inside false) (λ e. ne (omega (arith, e))) ∙ k.word c lt);
        one = at_each k.inside d inside (λ (c : ℕ) (b : Bool). b ≡ true → k.taken c ≡ false) (λ yes_in. free)
            (λ c ne. k.one c);
        at_home = λ c lt. at_each k.told d told
            (λ (x : ℕ) (l : List T). x < n → now_inside x ≡ false → k.taken x ≡ false → IsAt homes x (k.deed x) l)
            (λ lt no_in no_taken. home (sym (at_same k.inside d inside) ∙ no_in))
            (λ x ne lt no_in no_taken.
            let h = k.at_home x lt (sym (at_other k.inside d inside x ne) ∙ no_in) no_taken in
            (h.0, others x ne ∙ h.1, h.2, h.3))
            c lt;
        away = λ c lt. at_each k.inside d inside
            (λ (x : ℕ) (b : Bool). x < n → (b ≡ true) ⊎ (k.taken x ≡ true) → get_elem? homes x ≡ some none)
            (λ lt or. ⊎_elim (λ yes_in. away yes_in) (λ yes_taken. absurd (true≢false (sym yes_taken ∙ free))) or)
            (λ x ne lt or. others x ne ∙ k.away x lt or) c lt;
        later = λ c past.
            let ne : c ≢ d = λ e. past (subst (λ (x : ℕ). x < k.made) (sym e) mine.2) in
            let was = k.later c past in
            (at_other k.inside d inside c ne ∙ was.0, at_other k.told d told c ne ∙ was.1);
        keeper_there = keeper_stays s.views id k.keeper v w is one_seat k.keeper_there;
        passes_there = λ c lt. pass_stays s.views id (k.holder c) c v w is one_seat (k.passes_there c lt);
        fits = λ j u got. ⊎_elim
            (λ (t : (j ≡ id) × (w ≡ u)).
            subst (λ (y : ℕ × View D T). Fits n k.keeper k.made k.holder k.deed now_told now_inside k.taken y.0 y.1)
            (λ i. (sym t.0 i, t.1 i)) record {
              pass = λ p. (mine.0, mine.1, mine.2, mine.3, sym (at_same k.told d told), sym (at_same k.inside d inside));
              keeper_is = λ p. absurd (true≢false (sym p ∙ rests));
            })
            (λ (t : (j ≢ id) × (get_elem? s.views j ≡ some u)).
            let f = k.fits j u t.1 in
            record {
              pass = λ p.
                  let h = f.pass p in
                  let ne : u.door ≢ d = λ e. t.0 (sym h.0 ∙ ap k.holder e ∙ mine.0) in
                  (h.0, h.1, h.2, h.3, h.4 ∙ sym (at_other k.told d told u.door ne), h.5 ∙ sym (at_other k.inside d inside u.door ne));
              keeper_is = f.keeper_is;
            })
            (at_set s.views id j w u got);
      }

  -- the keeper takes a door: its word, its slot and what the keeper's view says of it change
  pub keeper_moves : (n id : ℕ) (v : View D T) (d tries : ℕ) (homes : List (Home (Option H)))
      (s : State (Option H) (View D T)) → (k : Held n s) → v.is_keeper ≡ true → v.is_pass ≡ false
      → get_elem? s.views id ≡ some v → d < n → k.inside d ≡ false
      → ((c : ℕ) → c ≢ d → get_elem? homes c ≡ get_elem? s.homes c)
      → get_elem? homes d ≡ some none
      → Held n record {
        words = set s.words (d + 2) 2;
        homes = homes;
        views = set s.views id (record v { doors = with_taken v.doors d; found = 0; tries = tries });
      }
  keeper_moves n id v d tries homes s k keeps_it rests is below out others away =
      let mine = (k.fits id v is).keeper_is keeps_it in
      let w : View D T = record v { doors = with_taken v.doors d; found = 0; tries = tries } in
      let now_taken = at k.taken d true in
      let one_seat : SameSeat v w = record { is_pass = λ p. p; door = refl; is_keeper = λ p. p } in
      record {
        long = length-set s.words (d + 2) 2 ∙ k.long;
        keeper = k.keeper;
        made = k.made;
        holder = k.holder;
        deed = k.deed;
        told = k.told;
        inside = k.inside;
        taken = now_taken;
        word = at_each k.taken d true
            (λ (c : ℕ) (b : Bool). c < n → slice_index (set s.words (d + 2) 2) (c + 2) ≡ word_of (k.inside c) b)
            (λ lt. word_here s.words (d + 2) 2 (let long = k.long in omega (arith, lt, long)))
            (λ c ne lt. word_else s.words (d + 2) (c + 2) 2 (λ e. ne (omega (arith, e))) ∙ k.word c lt);
        one = at_each k.taken d true (λ (c : ℕ) (b : Bool). k.inside c ≡ true → b ≡ false)
            (λ yes_in. absurd (true≢false (sym yes_in ∙ out))) (λ c ne. k.one c);
        at_home = λ c lt no_in. at_each k.taken d true
            (λ (x : ℕ) (b : Bool). x < n → k.inside x ≡ false → b ≡ false → IsAt homes x (k.deed x) (k.told x))
            (λ lt no_in no_taken. absurd (true≢false no_taken))
            (λ x ne lt no_in no_taken. let h = k.at_home x lt no_in no_taken in (h.0, others x ne ∙ h.1, h.2, h.3))
            c lt no_in;
        away = λ c lt. at_each k.taken d true
            (λ (x : ℕ) (b : Bool). x < n → (k.inside x ≡ true) ⊎ (b ≡ true) → get_elem? homes x ≡ some none)
            (λ lt or. away) (λ x ne lt or. others x ne ∙ k.away x lt or) c lt;
        later = k.later;
        keeper_there = keeper_stays s.views id k.keeper v w is one_seat k.keeper_there;
        passes_there = λ c lt. pass_stays s.views id (k.holder c) c v w is one_seat (k.passes_there c lt);
        fits = λ j u got. ⊎_elim
            (λ (t : (j ≡ id) × (w ≡ u)).
            subst (λ (y : ℕ × View D T). Fits n k.keeper k.made k.holder k.deed k.told k.inside now_taken y.0 y.1)
            (λ i. (sym t.0 i, t.1 i)) record {
              pass = λ p. absurd (true≢false (sym p ∙ rests));
              keeper_is = λ p. (
                mine.0,
                mine.1,
                doors_many v.doors d ∙ mine.2,
                (λ c lt. (
                  deed_stays v.doors d c ∙ (mine.3 c lt).0,
                  at_each k.taken d true (λ (x : ℕ) (b : Bool). x < n → taken_at (with_taken v.doors d) x ≡ b)
                      (λ lt. taken_here v.doors d (subst (λ (m : ℕ). d < m) (sym mine.2) below))
                      (λ x ne lt. taken_else v.doors d x ne ∙ (mine.3 x lt).1) c lt,
                )),
              );
            })
            (λ (t : (j ≢ id) × (get_elem? s.views j ≡ some u)).
            let f = k.fits j u t.1 in
            record {
              pass = f.pass;
              keeper_is = λ p. absurd (t.0 (sym (f.keeper_is p).0 ∙ mine.0));
            })
            (at_set s.views id j w u got);
      }

  -- ---- the steps

  pub enters : EnterKept deed_of told_of
  enters n slots id me d passes rests out is s k many at_id small =
      let v = me.0 in
      let mine = (k.fits id v at_id).pass passes in
      let lt : d < n = subst (λ (x : ℕ). x < n) is mine.1 in
      let out_now : k.inside d ≡ false = ap k.inside (sym is) ∙ sym mine.5 ∙ out in
      let long : d + 2 < length s.words = (let l = k.long in omega (arith, l, lt)) in
      bool_cases (k.taken d) _
      (λ (yes_taken : k.taken d ≡ true).
      let word : slice_index s.words (d + 2) ≡ 2 = k.word d lt ∙ ap (word_of (k.inside d)) yes_taken in
      subst (λ (x : ℕ). Goes s k at_id x) (sym word) (
        after_found v 2,
        keeps,
        tt,
        steady n id v (after_found v 2) s (set s.words (d + 2) 2) k (length-set s.words (d + 2) 2)
            (same_words s.words (d + 2) 2 long word) at_id record { is_pass = λ p. p; door = refl; is_keeper = λ p. p }
            (λ f. record { pass = f.pass; keeper_is = f.keeper_is }),
        (refl, refl),
      ))
      (λ (no_taken : k.taken d ≡ false).
      let word : slice_index s.words (d + 2) ≡ 0 =
      k.word d lt ∙ ap (λ (b : Bool). word_of (k.inside d) b) no_taken ∙ ap (λ (b : Bool). word_of b false) out_now in
      let h = k.at_home d lt out_now no_taken in
      subst (λ (x : ℕ). Goes s k at_id x) (sym word) (
        after_enter v,
        takes d (Some h.0),
        h.1,
        subst (λ (c : ℕ). Held n record { words = set s.words (c + 2) 1; homes = set s.homes d none; views = set s.views id (after_enter v) }) is
            (pass_moves n id v true v.told 0 (v.tries + 1) (set s.homes d none) s k passes rests at_id
            (ap k.taken is ∙ no_taken) (λ c ne. set_else s.homes d c none (λ e. ne (e ∙ sym is)))
            (λ no_in. absurd (true≢false no_in))
            (λ yes_in. subst (λ (c : ℕ). get_elem? (set s.homes d none) c ≡ some none) (sym is) (set_here s.homes d none (there s.homes d _ h.1)))),
        (
          h.0,
          h.2 ∙ ap k.deed (sym is) ∙ sym mine.3,
          h.3 ∙ ap k.told (sym is) ∙ sym mine.4,
          (λ i. (after_enter v, (sym is i, Some h.0) ∷ me.1)),
        ),
      ))
    where
      Goes : (s : State (Option H) (View D T)) → Held n s → get_elem? s.views id ≡ some me.0 → ℕ → Type 0
      Goes s k at_id x = (w : View D T) × (a : Act (Option H)) × Valid s.homes me.1 a
          × Held n (stepped s (d + 2) (either (x == 0) 1 x) id me.1 w a) × Enters deed_of told_of me x (w, carried_after me.1 a)

  -- the pass that is in leaves back a hand with its deed
  pub leaves : LeaveKept deed_of told_of
  leaves n slots id me d h passes rests inn is holds_it same s k many at_id small =
      let v = me.0 in
      let mine = (k.fits id v at_id).pass passes in
      let lt : d < n = subst (λ (x : ℕ). x < n) is mine.1 in
      let in_now : k.inside d ≡ true = ap k.inside (sym is) ∙ sym mine.5 ∙ inn in
      let free : k.taken d ≡ false = k.one d in_now in
      let away = k.away d lt (inl in_now) in
      let homes : List (Home (Option H)) = set s.homes d (some (Some h)) in
      let put : put_back s.homes me.1 ≡ homes = ap (put_back s.homes) holds_it in (
        after_leave v (told_of h),
        gives,
        tt,
        subst (λ (hs : List (Home (Option H))). Held n record { words = set s.words (d + 2) 0; homes = hs; views = set s.views id (after_leave v (told_of h)) })
            (sym put)
            (subst (λ (c : ℕ). Held n record { words = set s.words (c + 2) 0; homes = homes; views = set s.views id (after_leave v (told_of h)) }) is
            (pass_moves n id v false (told_of h) v.found v.tries homes s k passes rests at_id (ap k.taken is ∙ free)
            (λ c ne. set_else s.homes d c (some (Some h)) (λ e. ne (e ∙ sym is)))
            (λ no_in. (
              h,
              subst (λ (c : ℕ). get_elem? homes c ≡ some (some (Some h))) (sym is)
                  (set_here s.homes d (some (Some h)) (there s.homes d none away)),
              same ∙ mine.3,
              refl,
            ))
            (λ yes_in. absurd (true≢false (sym yes_in))))),
        (h, holds_it ∙ (λ i. (sym is i, Some h) ∷ rest me.1), refl),
      )

  -- the keeper takes a door that it hasn't taken
  pub tries_to_take : TakeKept deed_of told_of
  tries_to_take n slots id word me d keeps_it rests lt_doors no_taken word_is s k many at_id small =
      let v = me.0 in
      let mine = (k.fits id v at_id).keeper_is keeps_it in
      let lt : d < n = subst (λ (x : ℕ). d < x) mine.2 lt_doors in
      let free : k.taken d ≡ false = sym (mine.3 d lt).1 ∙ no_taken in
      let long : d + 2 < length s.words = (let l = k.long in omega (arith, l, lt)) in
      bool_cases (k.inside d) _
      (λ (yes_in : k.inside d ≡ true).
      let found : slice_index s.words (d + 2) ≡ 1 =
      k.word d lt ∙ ap (λ (b : Bool). word_of (k.inside d) b) free ∙ ap (λ (b : Bool). word_of b false) yes_in in
      subst (λ (x : ℕ). Goes s k at_id x) (sym found) (
        after_found v 1,
        keeps,
        tt,
        steady n id v (after_found v 1) s (set s.words (d + 2) 1) k (length-set s.words (d + 2) 1)
            (same_words s.words (d + 2) 1 long found) at_id record { is_pass = λ p. p; door = refl; is_keeper = λ p. p }
            (λ f. record { pass = f.pass; keeper_is = f.keeper_is }),
        (d, word_is, (refl, refl)),
      ))
      (λ (no_in : k.inside d ≡ false).
      let found : slice_index s.words (d + 2) ≡ 0 =
      k.word d lt ∙ ap (λ (b : Bool). word_of (k.inside d) b) free ∙ ap (λ (b : Bool). word_of b false) no_in in
      let h = k.at_home d lt no_in free in
      subst (λ (x : ℕ). Goes s k at_id x) (sym found) (
        after_take v d,
        takes d (Some h.0),
        h.1,
        keeper_moves n id v d (v.tries + 1) (set s.homes d none) s k keeps_it rests at_id lt no_in
            (λ c ne. set_else s.homes d c none ne) (set_here s.homes d none (there s.homes d _ h.1)),
        (d, word_is, (h.0, h.2 ∙ sym (mine.3 d lt).0, refl)),
      ))
    where
      Goes : (s : State (Option H) (View D T)) → Held n s → get_elem? s.views id ≡ some me.0 → ℕ → Type 0
      Goes s k at_id x = (w : View D T) × (a : Act (Option H)) × Valid s.homes me.1 a
          × Held n (stepped s (d + 2) (either (x == 0) 2 x) id me.1 w a) × Takes deed_of word me x (w, carried_after me.1 a)

  -- a step on the bell or on the count
  pub keeps_doors : BellOrCountKept deed_of told_of
  keeps_doors n slots id i f me low s k many at_id small =
      let x = f (slice_index s.words i) in (
        me.0,
        keeps,
        tt,
        steady n id me.0 me.0 s (set s.words i x) k (length-set s.words i x)
            (λ c. word_else s.words i (c + 2) x (λ e. let z : ⊥ = omega (arith, e, low) in z)) at_id
            record { is_pass = λ p. p; door = refl; is_keeper = λ p. p } (λ g. g),
        refl,
      )

  -- a pass for the next door
  pub splits : SplitKept deed_of told_of
  splits n id v keeps_it rests left s k at_id =
      let mine = (k.fits id v at_id).keeper_is keeps_it in
      let vs = set s.views id (after_split v) in
      let new = length vs in
      let lt : v.made < n = subst (λ (x : ℕ). v.made < x) mine.2 left in
      let holder = at k.holder v.made new in
      let one_seat : SameSeat v (after_split v) = record { is_pass = λ p. p; door = refl; is_keeper = λ p. p } in
      let fresh = k.later v.made (λ l. let m = mine.1 in let z : ⊥ = omega (arith, l, m) in z) in
      let old : (j : ℕ) (u : View D T) → u.is_keeper ≡ false → Fits n k.keeper k.made k.holder k.deed k.told k.inside k.taken j u
      → Fits n k.keeper (k.made + 1) holder k.deed k.told k.inside k.taken j u =
      λ j u no f. record {
        pass = λ p.
            let h = f.pass p in
            let ne : u.door ≢ v.made = λ e. let m = mine.1 in let l = h.2 in let z : ⊥ = omega (arith, e, m, l) in z in
            (at_other k.holder v.made new u.door ne ∙ h.0, h.1, (let l = h.2 in omega (arith, l)), h.3, h.4, h.5);
        keeper_is = λ p. absurd (true≢false (sym p ∙ no));
      } in
      record {
        long = k.long;
        keeper = k.keeper;
        made = k.made + 1;
        holder = holder;
        deed = k.deed;
        told = k.told;
        inside = k.inside;
        taken = k.taken;
        word = k.word;
        one = k.one;
        at_home = k.at_home;
        away = k.away;
        later = λ c past. k.later c (λ l. past (omega (arith, l)));
        keeper_there = view_before vs k.keeper (next_pass v) (λ u. u.is_keeper ≡ true) (keeper_stays s.views id k.keeper v (after_split v) at_id one_seat k.keeper_there);
        passes_there = at_each k.holder v.made new
            (λ (c j : ℕ). c < k.made + 1 → HasView (vs ++ next_pass v ∷ []) j (λ u. (u.is_pass ≡ true) × (u.door ≡ c)))
            (λ lt. view_last vs (next_pass v) (λ u. (u.is_pass ≡ true) × (u.door ≡ v.made)) (refl, refl))
            (λ c ne lt.
            let below : c < k.made = (let m = mine.1 in let z : c ≢ v.made = ne in omega (arith, m, lt, z)) in
            view_before vs (k.holder c) (next_pass v) (λ u. (u.is_pass ≡ true) × (u.door ≡ c))
            (pass_stays s.views id (k.holder c) c v (after_split v) at_id one_seat (k.passes_there c below)));
        fits = λ j u got. ⊎_elim
            (λ o. ⊎_elim
            (λ (t : (j ≡ id) × (after_split v ≡ u)).
            subst (λ (y : ℕ × View D T). Fits n k.keeper (k.made + 1) holder k.deed k.told k.inside k.taken y.0 y.1)
            (λ i. (sym t.0 i, t.1 i)) record {
              pass = λ p. absurd (true≢false (sym p ∙ rests));
              keeper_is = λ p. (mine.0, ap (λ (x : ℕ). x + 1) mine.1, mine.2, mine.3);
            })
            (λ (t : (j ≢ id) × (get_elem? s.views j ≡ some u)).
            let f = k.fits j u t.1 in
            old j u (bool_cases u.is_keeper (u.is_keeper ≡ false) (λ p. absurd (t.0 (sym (f.keeper_is p).0 ∙ mine.0))) (λ p. p)) f)
            (at_set s.views id j (after_split v) u o))
            (λ (t : (j ≡ new) × (next_pass v ≡ u)).
            subst (λ (y : ℕ × View D T). Fits n k.keeper (k.made + 1) holder k.deed k.told k.inside k.taken y.0 y.1)
            (λ i. (sym t.0 i, t.1 i)) record {
              pass = λ p. (
                at_same k.holder v.made new,
                lt,
                (let m = mine.1 in omega (arith, m)),
                (mine.3 v.made lt).0,
                sym fresh.1,
                sym fresh.0,
              );
              keeper_is = λ p. absurd (true≢false (sym p));
            })
            (at_end vs (next_pass v) u j got);
      }

  -- ---- the beginning

  home_first : (xs : List (Option H)) (c : ℕ) → AreFresh told_of xs → c < length xs
      → IsAt (map some xs) c (deed_at (doors_in deed_of xs) c) []
  home_first [] c fresh lt = absurd (omega (arith, lt))
  home_first (None ∷ xs) c fresh lt = absurd fresh
  home_first (Some h ∷ xs) zero fresh lt = (h, refl, refl, fresh.0)
  home_first (Some h ∷ xs) (suc c) fresh lt = home_first xs c fresh.1 (omega (arith, lt))

  pub doors_first : (xs : List (Option H)) → length (doors_in deed_of xs) ≡ length xs
  doors_first [] = refl
  doors_first (x ∷ xs) = ap suc (doors_first xs)

  none_first : (xs : List (Option H)) (c : ℕ) → taken_at (doors_in deed_of xs) c ≡ false
  none_first [] c = refl
  none_first (x ∷ xs) zero = refl
  none_first (x ∷ xs) (suc c) = none_first xs c

  pub begins : OpeningKept deed_of told_of
  begins words xs fresh long zeros = record {
    long = long;
    keeper = 0;
    made = 0;
    holder = λ c. 0;
    deed = deed_at (doors_in deed_of xs);
    told = λ c. [];
    inside = λ c. false;
    taken = λ c. false;
    word = λ c lt. zeros (c + 2);
    one = λ c yes_in. refl;
    at_home = λ c lt no_in no_taken. home_first xs c fresh lt;
    away = λ c lt or. ⊎_elim (λ p. absurd (true≢false (sym p))) (λ p. absurd (true≢false (sym p))) or;
    later = λ c past. (refl, refl);
    keeper_there = (keeper_of deed_of xs, refl, refl);
    passes_there = λ c lt. absurd (omega (arith, lt));
    fits = only;
  }
    where
      Fit : ℕ → View D T → Type 0
      Fit = Fits (length xs) 0 0 (λ c. 0) (deed_at (doors_in deed_of xs)) (λ c. []) (λ c. false) (λ c. false)

      only : (id : ℕ) (v : View D T) → get_elem? (keeper_of deed_of xs ∷ []) id ≡ some v → Fit id v
      only zero v got = subst (λ (y : View D T). Fit 0 y) (some-injective _ v got) record {
        pass = λ p. absurd (true≢false (sym p));
        keeper_is = λ p. (refl, refl, doors_first xs, (λ c lt. (refl, none_first xs c)));
      }
      only (suc id) v got = absurd (some-ne-none v (sym got))
