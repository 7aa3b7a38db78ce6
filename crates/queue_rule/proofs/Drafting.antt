-- A store of a draft word keeps the rule.
use Rattle.std.proofs.Common.{◌≡◌, ◌≢◌, ℕ, ◌+◌, ◌-◌, ◌<◌, ◌≤◌, eqb, Bool, true, false, if◌then◌else◌, List, [], ◌∷◌, ◌++◌, map, length, get_or, take, set, sym, refl, ap, ◌∙◌, subst, ⊎_elim, arith, eq-eqb, get_or-set_other, get_or-set_same, length-set, length-append, length-take-le, get_or-take}
use Rattle.std.proofs.lemmas.List.{get_or_append_left, get_or_at}
use mathlib.Core.Option.{some, none}
use mathlib.Core.Logic.{dite}
use native.Mathlib.Decide.{ℕ_discrete}
use lib.ListN.{get_elem?}
use Rattle.atomic_table.specs.Table.{State, step, keeps, stepped, Allows}
use Rattle.atomic_table.proofs.Lists.{at_set}
use Rattle.queue_rule.specs.declared.view.View.{View}
use Rattle.queue_rule.specs.declared.view.Own.{Own}
use Rattle.queue_rule.specs.Lists.{times}
use Rattle.queue_rule.specs.Views.{numbers, more_numbers, draft_start, with_draft}
use Rattle.queue_rule.specs.Chain.{ChainEntry, need, start, used, own, own_from, filled, Spelled}
use Rattle.queue_rule.specs.Rule.{total, IsKnown, Fits, Kept}
use Rattle.queue_rule.specs.Steps.{Drafted}
use Rattle.queue_rule.proofs.Lists.{used_take, all_at, all_more, total_two, total_set, total_at}
use Rattle.queue_rule.proofs.Chain.{AllPast, is_past, chained_set, lies_set, known_set, fits_else}

filled_if : (b : Bool) (o : Own) (os os' : List Own) (u : ℕ) → filled os ≡ u → filled os' ≡ u → filled (if b then o ∷ os else os') ≡ (if b then length o.words + 1 else 0) + u
filled_if true o os os' u e f = ap (λ (n : ℕ). (length o.words + 1) + n) e
filled_if false o os os' u e f = f ∙ omega arith

pub filled_own : (i p : ℕ) (es : List ChainEntry) → filled (own_from i p es) ≡ used i es
filled_own i p [] = refl
filled_own i p (e ∷ es) = filled_if (eqb e.seat i) (own p e.words) (own_from i (p + 1) es) (own_from i (p + 1) es) (used i es) (filled_own i (p + 1) es) (filled_own i (p + 1) es)

pub no_entry : (n : ℕ) (es : List ChainEntry) → own_from n 1 es ≡ [] → (j : ℕ) (e : ChainEntry) → get_elem? es j ≡ some e → e.seat ≡ n → ⊥
no_entry n es no_own j e got is = let u : used n es ≡ 0 = sym (filled_own n 1 es) ∙ ap filled no_own in let t = used_take es j e got in let same : used e.seat es ≡ used n es = ap (λ (i : ℕ). used i es) is in omega (arith, u, t, same)

pub redrafted : (ws : List ℕ) (at : ℕ) (xs : List ℕ) (d x : ℕ) → Spelled ws at xs → d ≤ length xs → at + d < length ws → Spelled (set ws (at + d) x) at (take d xs ++ x ∷ [])
redrafted ws at xs d x h le inside j l = let short : length (take d xs) ≡ d = length-take-le d xs le in let long : length (take d xs ++ x ∷ []) ≡ d + 1 = length-append (take d xs) (x ∷ []) ∙ ap (λ (n : ℕ). n + 1) short in dite (ℕ_discrete j d)
    (λ is. ap (λ (i : ℕ). get_or (set ws (at + d) x) (at + i) 0) is ∙ (get_or-set_same ws (at + d) x 0 inside ∙ (sym (get_or_at (take d xs) x [] 0 d short) ∙ ap (λ (i : ℕ). get_or (take d xs ++ x ∷ []) i 0) (sym is))))
    (λ other. let below : j < d = omega (arith, long, l, other) in
    get_or-set_other ws (at + d) (at + j) x 0 (λ e. let z : ⊥ = omega (arith, e, below) in z) ∙ (h j (omega (arith, below, le)) ∙ sym (get_or_append_left (take d xs) (x ∷ []) 0 j (omega (arith, short, below)) ∙ get_or-take d xs j 0 below)))

pub live_numbers : (v : View) → v.live ≡ true → numbers v ≡ v.number ∷ more_numbers v
live_numbers v live = ap (λ (b : Bool). if b then v.number ∷ more_numbers v else []) live

pub times_head : (n : ℕ) (xs : List ℕ) → times n (n ∷ xs) ≡ 1 + times n xs
times_head n xs = ap (λ (b : Bool). (if b then 1 else 0) + times n xs) (eq-eqb n n refl)

pub own_number : (v : View) → v.live ≡ true → times v.number (numbers v) ≡ 1 + times v.number (more_numbers v)
own_number v live = ap (times v.number) (live_numbers v live) ∙ times_head v.number (more_numbers v)

pub no_times : (n x : ℕ) (xs : List ℕ) → times n (x ∷ xs) ≡ 0 → x ≢ n
no_times n x xs zero_times is = let t : times n (n ∷ xs) ≡ 0 = subst (λ (y : ℕ). times n (y ∷ xs) ≡ 0) is zero_times in let u = times_head n xs in let z : ⊥ = omega (arith, t, u) in z

pub times_append : (n : ℕ) (xs ys : List ℕ) → times n (xs ++ ys) ≡ times n xs + times n ys
times_append n [] ys = omega arith
times_append n (x ∷ xs) ys = let h = times_append n xs ys in omega (arith, h)

module _ (k : ℕ) where
  abbrev pub St : Type 0
  St = State (Unit {0}) View

  -- a number that one view holds, no other does
  pub elsewhere : (s : St) (r : Kept k s) (i j : ℕ) (v u : View) (n : ℕ) → get_elem? s.views i ≡ some v → get_elem? s.views j ≡ some u → j ≢ i → n < k → 0 < times n (numbers v) → times n (numbers u) ≡ 0
  elsewhere s r i j v u n at to other low mine = let two = total_two (λ (w : View). times n (numbers w)) s.views i j v u at to other in let one = r.once n low in omega (arith, two, one, mine)

  pub apart : (s : St) (r : Kept k s) (i j : ℕ) (v u : View) → get_elem? s.views i ≡ some v → get_elem? s.views j ≡ some u → j ≢ i → v.live ≡ true → u.live ≡ true → v.number < k → u.number ≢ v.number
  apart s r i j v u at to other live alive low = let mine = own_number v live in
      no_times v.number u.number (more_numbers u) (ap (times v.number) (sym (live_numbers u alive)) ∙ elsewhere s r i j v u v.number at to other low (omega (arith, mine)))

  pub once_here : (s : St) (r : Kept k s) (i : ℕ) (v : View) (n : ℕ) → get_elem? s.views i ≡ some v → n < k → times n (numbers v) ≤ 1
  once_here s r i v n at low = let t = total_at (λ (w : View). times n (numbers w)) s.views i v at in let one = r.once n low in omega (arith, t, one)

  pub same_once : (s : St) (r : Kept k s) (i : ℕ) (v w : View) → get_elem? s.views i ≡ some v → numbers w ≡ numbers v → (n : ℕ) → n < k → total (λ u. times n (numbers u)) (set s.views i w) ≡ 1
  same_once s r i v w at same n low = let t = total_set (λ (u : View). times n (numbers u)) s.views i v w at in let e : times n (numbers w) ≡ times n (numbers v) = ap (times n) same in let one = r.once n low in omega (arith, t, e, one)

  -- what holds of each live view
  abbrev pub AllFit : List ℕ → List ChainEntry → List View → Type 0
  AllFit ws es vs = (id : ℕ) (v : View) → get_elem? vs id ≡ some v → v.live ≡ true → Fits k ws es v

  -- the words stay, and other views keep the rule
  pub with_views : (s : St) (r : Kept k s) (views : List View) → ((n : ℕ) → n < k → total (λ v. times n (numbers v)) views ≡ 1) → AllFit s.words r.entries views
      → Kept k record { words = s.words; homes = s.homes; views = views }
  with_views s r views once fits = record { entries = r.entries; long = r.long; chained = r.chained; lies = r.lies; opens = r.opens; once = once; fits = fits }

  pub fit_set : (ws : List ℕ) (es : List ChainEntry) (vs : List View) (id : ℕ) (w : View) → Fits k ws es w → ((j : ℕ) (u : View) → j ≢ id → get_elem? vs j ≡ some u → u.live ≡ true → Fits k ws es u) → AllFit ws es (set vs id w)
  fit_set ws es vs id w mine others j u e live = ⊎_elim (λ (t : (j ≡ id) × (w ≡ u)). subst (λ (y : View). Fits k ws es y) t.1 mine) (λ (t : (j ≢ id) × (get_elem? vs j ≡ some u)). others j u t.0 t.1 live) (at_set vs id j w u e)

  drafted : (s : St) (r : Kept k s) (id : ℕ) (v : View) (cs : List (ℕ × Unit {0})) (d x : ℕ) → get_elem? s.views id ≡ some v → v.live ≡ true → d ≤ length v.draft → filled v.own + d < 16642
      → Kept k (stepped s (draft_start v + d) x id cs (with_draft v (take d v.draft ++ x ∷ [])) keeps)
  drafted s r id v cs d x at live le room =
      let f = r.fits id v at live in
      let es = r.entries in
      let i = v.number in
      let a : ℕ = start i + filled v.own + d in
      let same : filled v.own ≡ used i es = ap filled f.owns ∙ filled_own i 1 es in
      let number = f.number in
      let long = r.long in
      let past : AllPast a es = is_past k s.words es i a r.lies (omega (arith, same)) (omega (arith, room)) in
      let inside : a < length s.words = omega (arith, number, long, room) in
      let w = with_draft v (take d v.draft ++ x ∷ []) in
      let here : start i + used i es + d ≡ a = omega (arith, same) in
      let mine : Fits k (set s.words a x) es w = record {
        number = f.number;
        seats = f.seats;
        owns = f.owns;
        held = f.held;
        olds = f.olds;
        blank = f.blank;
        spares = f.spares;
        room = let n = length-append (take d v.draft) (x ∷ []) in let m = length-take-le d v.draft le in omega (arith, same, room, n, m);
        draft = subst (λ (b : ℕ). Spelled (set s.words b x) (start i + used i es) (take d v.draft ++ x ∷ [])) here (redrafted s.words (start i + used i es) v.draft d x f.draft le (omega (arith, here, inside)));
        unseen = f.unseen;
        seen = f.seen;
        known = all_more (IsKnown s.words es) (IsKnown (set s.words a x) es) v.known (λ o. known_set s.words es a x o past (omega arith)) f.known;
      } in record {
        entries = es;
        long = length-set s.words a x ∙ long;
        chained = chained_set s.words a x 0 (map (λ (e : ChainEntry). e.at) es) r.chained (λ e. let z : ⊥ = omega (arith, e) in z)
            (all_at (λ (e : ChainEntry). e.at) (λ b. b ≢ a) es (λ j e got is. ⊎_elim (λ (low : a < e.at). let z : ⊥ = omega (arith, low, is) in z) (λ (high : e.at + need e ≤ a). let z : ⊥ = omega (arith, high, is) in z) (past j e got)));
        lies = λ j e got. lies_set k s.words a x (take j es) e (r.lies j e got) (past j e got);
        opens = r.opens;
        once = same_once s r id v w at refl;
        fits = fit_set (set s.words a x) es s.views id w mine (λ j u other got alive. let g = r.fits j u got alive in
            fits_else k s.words es i a x u past (omega arith) (omega (arith, room)) (apart s r id j v u at got other live alive f.number) g);
      }

  pub drafts : (slots id : ℕ) (v : View) (cs : List (ℕ × Unit {0})) (word x : ℕ) → v.live ≡ true → draft_start v ≤ word → word ≤ draft_start v + length v.draft → word < start v.number + 16642
      → Allows (Kept k) slots id (v, cs) word (λ _. x) (λ _. Drafted (step slots word x 0 none) (v, cs) x)
  drafts slots id v cs word x live low high room s r _ at _ =
      let d : ℕ = word - draft_start v in
      let is : draft_start v + d ≡ word = omega (arith, low) in (
        with_draft v (take d v.draft ++ x ∷ []),
        keeps,
        tt,
        subst (λ (b : ℕ). Kept k (stepped s b x id cs (with_draft v (take d v.draft ++ x ∷ [])) keeps)) is (drafted s r id v cs d x at live (omega (arith, high, is)) (omega (arith, is, room))),
        refl,
      )
