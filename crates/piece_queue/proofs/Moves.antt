-- Pushes and pops keep the rule.
use Rattle.std.proofs.Common.{◌≡◌, ◌≢◌, ◌⊎◌, ℕ, suc, zero, ◌+◌, ◌<◌, eqb, Bool, true, false, if◌then◌else◌, List, [], ◌∷◌, ◌++◌, append_assoc, append-nil, set, sym, refl, ap, ◌∙◌, subst, inl, inr, ⊎_elim, length, true≢false, arith, eq-eqb, ne_eqb}
use mathlib.Core.Option.{some, some-injective, some-ne-none}
use mathlib.Core.Logic.{dite}
use native.Mathlib.Decide.{ℕ_discrete}
use lib.ListN.{get_elem?}
use Rattle.crossbeam_queue.specs.Fifo.{Pushes, Pops, Learns, Forks, Merges}
use Rattle.crossbeam_queue.proofs.Lists.{at_set}
use Rattle.std.specs.List.{AllByRecursion}
use Rattle.thread_writer.specs.declared.piece.Piece.{Piece}
use Rattle.piece_queue.specs.declared.view.Sent.{Sent}
use Rattle.piece_queue.specs.declared.view.Hand.{Hand}
use Rattle.piece_queue.specs.Views.{pieces_of, AreBelow, keeper, sends, takes_on, one_more, worker, idle, took_back}
use Rattle.piece_queue.specs.Rule.{Fits, Kept, Came}

pieces_if : (b : Bool) (x : Piece) (xs ys : List Piece) → (if b then x ∷ (xs ++ ys) else (xs ++ ys)) ≡ (if b then x ∷ xs else xs) ++ ys
pieces_if true x xs ys = refl
pieces_if false x xs ys = refl

pub pieces_append : (w : ℕ) (xs ys : List Piece) → pieces_of w (xs ++ ys) ≡ pieces_of w xs ++ pieces_of w ys
pieces_append w [] ys = refl
pieces_append w (x ∷ xs) ys = ap (λ l. if eqb x.worker w then x ∷ l else l) (pieces_append w xs ys) ∙ pieces_if (eqb x.worker w) x (pieces_of w xs) (pieces_of w ys)

more : (ℕ → List Piece) → Piece → ℕ → List Piece
more sent x w = sent w ++ pieces_of w (x ∷ [])

more_same : (sent : ℕ → List Piece) (x : Piece) → more sent x x.worker ≡ sent x.worker ++ x ∷ []
unfolding more
more_same sent x = ap (λ (b : Bool). sent x.worker ++ (if b then x ∷ [] else [])) (eq-eqb x.worker x.worker refl)

more_other : (sent : ℕ → List Piece) (x : Piece) (w : ℕ) → x.worker ≢ w → more sent x w ≡ sent w
unfolding more
more_other sent x w ne = ap (λ (b : Bool). sent w ++ (if b then x ∷ [] else [])) (ne_eqb x.worker w ne) ∙ append-nil (sent w)

each_more : {A : Type 0} (P Q : A → Type 0) (l : List A) → ((a : A) → P a → Q a) → AllByRecursion P l → AllByRecursion Q l
each_more P Q [] f h = tt
each_more P Q (x ∷ l) f h = (f x h.0, each_more P Q l f h.1)

below_more : (n : ℕ) (xs : List Piece) (x : Piece) → AreBelow n xs → x.worker < n → AreBelow n (xs ++ x ∷ [])
below_more n [] x h lt = (lt, tt)
below_more n (y ∷ xs) x h lt = (h.0, below_more n xs x h.1 lt)

below_left : (n : ℕ) (xs ys : List Piece) → AreBelow n (xs ++ ys) → AreBelow n xs
below_left n [] ys h = tt
below_left n (x ∷ xs) ys h = (h.0, below_left n xs ys h.1)

below_up : (n : ℕ) (xs : List Piece) → AreBelow n xs → AreBelow (n + 1) xs
below_up n [] h = tt
below_up n (x ∷ xs) h = ((let lt = h.0 in omega (arith, lt)), below_up n xs h.1)

pub pushes : (n pass : ℕ) (v : Hand) (x : Piece) → v.puts ≡ true → v.ended ≡ [] → x.worker ≡ v.worker → Pushes Kept n pass v x (λ w. w ≡ sends v x)
unfolding more
pushes n pass v x puts bare is items views _ k at =
    let f = k.fits pass v at in
    let mine = f.put puts in
    let sent = more k.sent x in
    let now : sent v.worker ≡ k.sent v.worker ++ x ∷ [] = subst (λ (w : ℕ). sent w ≡ k.sent w ++ x ∷ []) is (more_same k.sent x) in
    let else_where : (w : ℕ) → k.holder w ≢ pass → sent w ≡ k.sent w = λ w ne. more_other k.sent x w (λ e. ne (ap k.holder (sym e ∙ is) ∙ mine.0)) in
    let w = sends v x in
    let w_fits : Fits k.made k.reader k.holder sent k.got pass w = record {
      put = λ _. (mine.0, mine.1, ap (λ l. l ++ x ∷ []) mine.2 ∙ sym now);
      taken = f.taken;
      ended = subst (AllByRecursion (λ (d : Sent). (k.holder d.worker ≡ pass) × (d.worker < k.made) × (d.put ≡ sent d.worker))) (sym bare) tt;
    } in (
      w,
      record {
        made = k.made;
        reader = k.reader;
        holder = k.holder;
        sent = sent;
        got = k.got;
        whole = λ p. ap (pieces_of p) (sym (append_assoc k.got items (x ∷ []))) ∙ (pieces_append p (k.got ++ items) (x ∷ []) ∙ ap (λ l. l ++ pieces_of p (x ∷ [])) (k.whole p));
        below =
            subst (AreBelow k.made) (append_assoc k.got items (x ∷ []))
            (below_more k.made (k.got ++ items) x k.below (subst (λ (q : ℕ). q < k.made) (sym is) mine.1));
        later = λ p past. more_other k.sent x p (λ e. past (subst (λ (q : ℕ). q < k.made) (sym is ∙ e) mine.1)) ∙ k.later p past;
        fits = λ j u got. ⊎_elim (λ (t : (j ≡ pass) × (w ≡ u)). subst (λ (y : ℕ × Hand). Fits k.made k.reader k.holder sent k.got y.0 y.1) (λ i. (sym t.0 i, t.1 i)) w_fits)
            (λ (t : (j ≢ pass) × (get_elem? views j ≡ some u)). let g = k.fits j u t.1 in record {
              put = λ p. let h = g.put p in (h.0, h.1, h.2 ∙ sym (else_where u.worker (λ e. t.0 (sym h.0 ∙ e))));
              taken = g.taken;
              ended = each_more (λ (d : Sent). (k.holder d.worker ≡ j) × (d.worker < k.made) × (d.put ≡ k.sent d.worker)) (λ (d : Sent). (k.holder d.worker ≡ j) × (d.worker < k.made) × (d.put ≡ sent d.worker)) u.ended (λ d h. (h.0, h.1, h.2 ∙ sym (else_where d.worker (λ e. t.0 (sym h.0 ∙ e))))) g.ended;
            }) (at_set views pass j w u got);
      },
      refl,
    )

pub pops : (pass : ℕ) (v : Hand) → v.takes ≡ true → Pops Kept pass v (λ x w. w ≡ takes_on v x)
pops pass v takes x items views k at =
    let f = k.fits pass v at in
    let mine = f.taken takes in
    let got = k.got ++ x ∷ [] in
    let w = takes_on v x in
    let w_fits : Fits k.made k.reader k.holder k.sent got pass w = record { put = f.put; taken = λ _. (mine.0, ap (λ l. l ++ x ∷ []) mine.1, mine.2); ended = f.ended } in (
      w,
      record {
        made = k.made;
        reader = k.reader;
        holder = k.holder;
        sent = k.sent;
        got = got;
        whole = λ p. ap (pieces_of p) (append_assoc k.got (x ∷ []) items) ∙ k.whole p;
        below = subst (AreBelow k.made) (sym (append_assoc k.got (x ∷ []) items)) k.below;
        later = k.later;
        fits = λ j u there. ⊎_elim (λ (t : (j ≡ pass) × (w ≡ u)). subst (λ (y : ℕ × Hand). Fits k.made k.reader k.holder k.sent got y.0 y.1) (λ i. (sym t.0 i, t.1 i)) w_fits)
            (λ (t : (j ≢ pass) × (get_elem? views j ≡ some u)). let g = k.fits j u t.1 in record { put = g.put; taken = λ p. absurd (t.0 (sym (g.taken p).0 ∙ mine.0)); ended = g.ended }) (at_set views pass j w u there);
      },
      refl,
    )

pub learns : (pass : ℕ) (v : Hand) → v.takes ≡ true → Learns Kept pass v (Came v)
learns pass v takes items views k at =
    let f = k.fits pass v at in
    let mine = f.taken takes in (
      each_more (λ (d : Sent). (k.holder d.worker ≡ pass) × (d.worker < k.made) × (d.put ≡ k.sent d.worker)) (λ (d : Sent). pieces_of d.worker (v.taken ++ items) ≡ d.put) v.ended
          (λ d h. ap (λ l. pieces_of d.worker (l ++ items)) mine.1 ∙ (k.whole d.worker ∙ sym h.2)) f.ended,
      subst (λ (y : ℕ × List Piece). AreBelow y.0 y.1) (λ i. (sym mine.2 i, sym mine.1 i)) (below_left k.made k.got items k.below),
    )

at_new : (l : List Hand) (a u : Hand) (j : ℕ) → get_elem? (l ++ a ∷ []) j ≡ some u → (get_elem? l j ≡ some u) ⊎ ((j ≡ length l) × (a ≡ u))
at_new [] a u zero h = inr (refl, some-injective a u h)
at_new [] a u (suc j) h = absurd (some-ne-none u (sym h))
at_new (x ∷ l) a u zero h = inl h
at_new (x ∷ l) a u (suc j) h = ⊎_elim (λ o. inl o) (λ t. inr (ap suc t.0, t.1)) (at_new l a u j h)

at_below : (l : List Hand) (u : Hand) (j : ℕ) → get_elem? l j ≡ some u → j < length l
at_below [] u j h = absurd (some-ne-none u (sym h))
at_below (x ∷ l) u zero h = omega arith
at_below (x ∷ l) u (suc j) h = let r = at_below l u j h in omega (arith, r)

point : (ℕ → ℕ) → ℕ → ℕ → ℕ → ℕ
point f w id n = if eqb n w then id else f n

point_same : (f : ℕ → ℕ) (w id : ℕ) → point f w id w ≡ id
unfolding point
point_same f w id = ap (λ (b : Bool). if b then id else f w) (eq-eqb w w refl)

point_other : (f : ℕ → ℕ) (w id n : ℕ) → n ≢ w → point f w id n ≡ f n
unfolding point
point_other f w id n ne = ap (λ (b : Bool). if b then id else f n) (ne_eqb n w ne)

no_takes : (b : Bool) → (b ≡ true → ⊥) → b ≡ false
no_takes true h = absurd (h refl)
no_takes false h = refl

mute : Hand → Hand
mute v = record { puts = false; worker = v.worker; put = v.put; takes = false; made = v.made; taken = v.taken; ended = v.ended }

muted : (made reader : ℕ) (holder : ℕ → ℕ) (sent : ℕ → List Piece) (got : List Piece) (id : ℕ) (v : Hand) → Fits made reader holder sent got id v → Fits made reader holder sent got id (mute v)
unfolding mute
muted made reader holder sent got id v f = record { put = λ p. absurd (true≢false (sym p)); taken = λ p. absurd (true≢false (sym p)); ended = f.ended }

-- where the ends pieces_of a worker that ended are known, their numbers lie below
pub forks : (pass : ℕ) (v : Hand) → v.takes ≡ true → v.puts ≡ false → Forks Kept pass v (one_more v) (worker v.made [])
unfolding mute muted
forks pass v takes quiet items views k at =
    let f = k.fits pass v at in
    let mine = f.taken takes in
    let l = one_more v in
    let vs = set views pass l in
    let new = length vs in
    let holder = point k.holder v.made new in
    let low : (w : ℕ) → w < k.made → holder w ≡ k.holder w = λ w lt. point_other k.holder v.made new w (λ e. let m = mine.2 in let z : ⊥ = omega (arith, e, m, lt) in z) in
    let r = worker v.made [] in
    let old : (j : ℕ) (u : Hand) → Fits k.made k.reader k.holder k.sent k.got j u → u.takes ≡ false → Fits (k.made + 1) k.reader holder k.sent k.got j u = λ j u g no. record {
      put = λ p. let h = g.put p in let lt = h.1 in (low u.worker h.1 ∙ h.0, omega (arith, lt), h.2);
      taken = λ p. absurd (true≢false (sym p ∙ no));
      ended = each_more (λ (d : Sent). (k.holder d.worker ≡ j) × (d.worker < k.made) × (d.put ≡ k.sent d.worker)) (λ (d : Sent). (holder d.worker ≡ j) × (d.worker < k.made + 1) × (d.put ≡ k.sent d.worker)) u.ended (λ d h. let lt = h.1 in (low d.worker h.1 ∙ h.0, omega (arith, lt), h.2)) g.ended;
    } in record {
      made = k.made + 1;
      reader = k.reader;
      holder = holder;
      sent = k.sent;
      got = k.got;
      whole = k.whole;
      below = below_up k.made (k.got ++ items) k.below;
      later = λ w past. k.later w (λ lt. past (omega (arith, lt)));
      fits = λ j u got. ⊎_elim (λ o. ⊎_elim
          (λ (t : (j ≡ pass) × (l ≡ u)). subst (λ (y : ℕ × Hand). Fits (k.made + 1) k.reader holder k.sent k.got y.0 y.1) (λ i. (sym t.0 i, t.1 i)) record {
            put = λ p. absurd (true≢false (sym p ∙ quiet));
            taken = λ _. (mine.0, mine.1, ap (λ (n : ℕ). n + 1) mine.2);
            ended = (old pass (mute v) (muted k.made k.reader k.holder k.sent k.got pass v f) refl).ended;
          })
          (λ (t : (j ≢ pass) × (get_elem? views j ≡ some u)). old j u (k.fits j u t.1) (no_takes u.takes (λ p. t.0 (sym ((k.fits j u t.1).taken p).0 ∙ mine.0)))) (at_set views pass j l u o))
          (λ (t : (j ≡ new) × (r ≡ u)). subst (λ (y : ℕ × Hand). Fits (k.made + 1) k.reader holder k.sent k.got y.0 y.1) (λ i. (sym t.0 i, t.1 i)) record {
            put = λ _. (point_same k.holder v.made new, (let m = mine.2 in omega (arith, m)), sym (k.later v.made (λ lt. let m = mine.2 in let z : ⊥ = omega (arith, m, lt) in z)));
            taken = λ p. absurd (true≢false (sym p));
            ended = tt;
          }) (at_new vs r u j got);
    }

each_end : {A : Type 0} (P : A → Type 0) (l : List A) (a : A) → AllByRecursion P l → P a → AllByRecursion P (l ++ a ∷ [])
each_end P [] a h p = (p, tt)
each_end P (x ∷ l) a h p = (h.0, each_end P l a h.1 p)

-- the keeper takes a worker's pass back
pub merges : (pass : ℕ) (v : Hand) (other : ℕ) (u : Hand) → v.takes ≡ true → v.puts ≡ false → u.puts ≡ true → u.takes ≡ false → u.ended ≡ [] → Merges Kept pass v other u (took_back v u) idle
merges pass v other u takes quiet puts rests bare items views k at two there =
    let both = took_back v u in
    let vs = set views pass both in
    let was : get_elem? views other ≡ some u = ⊎_elim (λ (t : (other ≡ pass) × (both ≡ u)). absurd (two t.0)) (λ (t : (other ≢ pass) × (get_elem? views other ≡ some u)). t.1) (at_set views pass other both u there) in
    let f = k.fits pass v at in
    let g = k.fits other u was in
    let mine = f.taken takes in
    let hers = g.put puts in
    let holder = point k.holder u.worker pass in
    let same : (w : ℕ) → k.holder w ≢ other → holder w ≡ k.holder w = λ w ne. point_other k.holder u.worker pass w (λ e. ne (ap k.holder e ∙ hers.0)) in
    let keeps : (j : ℕ) (y : Hand) → j ≢ other → Fits k.made k.reader k.holder k.sent k.got j y → Fits k.made k.reader holder k.sent k.got j y = λ j y ne h. record {
      put = λ p. let q = h.put p in (same y.worker (λ e. ne (sym q.0 ∙ e)) ∙ q.0, q.1, q.2);
      taken = h.taken;
      ended = each_more (λ (d : Sent). (k.holder d.worker ≡ j) × (d.worker < k.made) × (d.put ≡ k.sent d.worker)) (λ (d : Sent). (holder d.worker ≡ j) × (d.worker < k.made) × (d.put ≡ k.sent d.worker)) y.ended (λ d q. (same d.worker (λ e. ne (sym q.0 ∙ e)) ∙ q.0, q.1, q.2)) h.ended;
    } in
    let kept = keeps pass v (λ e. two (sym e)) f in
    let new : Sent = record { worker = u.worker; put = u.put } in record {
      made = k.made;
      reader = k.reader;
      holder = holder;
      sent = k.sent;
      got = k.got;
      whole = k.whole;
      below = k.below;
      later = k.later;
      fits = λ j y got. ⊎_elim
          (λ (t : (j ≡ other) × (idle ≡ y)). subst (λ (z : Hand). Fits k.made k.reader holder k.sent k.got j z) t.1 record { put = λ p. absurd (true≢false (sym p)); taken = λ p. absurd (true≢false (sym p)); ended = tt })
          (λ (t : (j ≢ other) × (get_elem? vs j ≡ some y)). ⊎_elim
          (λ (q : (j ≡ pass) × (both ≡ y)). subst (λ (y : ℕ × Hand). Fits k.made k.reader holder k.sent k.got y.0 y.1) (λ i. (sym q.0 i, q.1 i)) record {
            put = λ p. absurd (true≢false (sym p ∙ quiet));
            taken = kept.taken;
            ended = each_end (λ (d : Sent). (holder d.worker ≡ pass) × (d.worker < k.made) × (d.put ≡ k.sent d.worker)) v.ended new kept.ended (point_same k.holder u.worker pass, hers.1, hers.2);
          })
          (λ (q : (j ≢ pass) × (get_elem? views j ≡ some y)). keeps j y t.0 (k.fits j y q.1)) (at_set views pass j both y t.1)) (at_set vs other j idle y got);
    }

-- at the beginning
pub begins : Kept [] (keeper 0 [] [] ∷ [])
begins = record {
  made = 0;
  reader = 0;
  holder = λ w. 0;
  sent = λ w. [];
  got = [];
  whole = λ w. refl;
  later = λ w past. refl;
  below = tt;
  fits = only;
}
  where
    only : (id : ℕ) (v : Hand) → get_elem? (keeper 0 [] [] ∷ []) id ≡ some v → Fits 0 0 (λ w. 0) (λ w. []) [] id v
    only zero v at = subst (λ (y : Hand). Fits 0 0 (λ w. 0) (λ w. []) [] 0 y) (some-injective _ v at) record {
      put = λ p. absurd (true≢false (sym p));
      taken = λ p. (refl, refl, refl);
      ended = tt;
    }
    only (suc id) v at = absurd (some-ne-none v (sym at))
