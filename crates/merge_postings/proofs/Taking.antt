-- A term that is taken out of the sources.
use Rattle.std.proofs.Common.{◌≡◌, ℕ, ◌+◌, ◌<◌, Option, Some, None, List, [], ◌∷◌, ◌++◌, Bool, true, false, ◌&&◌, ◌||◌, length, inl, inr, refl, sym, ap, ◌∙◌, subst, arith}
use Rattle.std.specs.List.{AllByRecursion}
use Rattle.std.specs.Option.{IfSome}
use Rattle.ix_base.proofs.TermOrder.{term_total}
use Rattle.ix_base.proofs.GroupedLaws.{or_assoc}
use Rattle.ix_base.specs.declared.document.Term.{Term}
use Rattle.ix_base.specs.declared.postings.TermPostings.{TermPostings}
use Rattle.merge_postings.specs.Renumbering.{CanMove, is_named, moved, moved_at}
use Rattle.merge_postings.specs.Walk.{CanWait, IsBelow, AddsPlaces, IsPassed, IsPutBack, StartAbove, StartFrom, Taken, TakenAll, Waiting, any_waiting, entry_count, waiting}
use Rattle.merge_postings.proofs.Queued.{above_not_below, all_one, all_others, all_put, any_put, below_through, count_put, put_last, tail_ordered, tri}

-- ---- the places that were taken

-- the same places, said otherwise
pub same_places : (u : Term) (old new : List Waiting) (place other : ℕ → ℕ → Bool) → ((r x : ℕ) → other r x ≡ place r x) → TakenAll u old new place → TakenAll u old new other
same_places u old new place other same all = record {
  taken = record {
    exact = λ field bytes r x.
        all.taken.exact field bytes r x
        ∙ ap (λ (b : Bool). (is_named field bytes u && b) || any_waiting new field bytes r x) (sym (same r x));
    from = all.taken.from;
    later = all.taken.later;
    can = all.taken.can;
    fewer = all.taken.fewer;
  };
  above = all.above;
}

-- ---- the rest of a source is put back

pub back_all : (P : Waiting → Type 0) (o : Option Waiting) (old new : List Waiting) → IsPutBack o old new → AllByRecursion P old → IfSome o P → AllByRecursion P new
back_all P None old new is all p = subst (AllByRecursion P) (sym is) all
back_all P (Some w) old new is all p = subst (AllByRecursion P) (sym is.2) (all_put P old is.0 w p all)

pub back_any : (es : List TermPostings) (numbers : List (Option ℕ)) (old new : List Waiting) → IsPutBack (waiting es numbers) old new → (field bytes : List ℕ) (r x : ℕ)
    → any_waiting new field bytes r x ≡ (moved numbers es field bytes r x || any_waiting old field bytes r x)
back_any [] numbers old new is field bytes r x = ap (λ (ws : List Waiting). any_waiting ws field bytes r x) is
back_any (e ∷ es) numbers old new is field bytes r x =
    ap (λ (ws : List Waiting). any_waiting ws field bytes r x) is.2 ∙ any_put old is.0 (record { first = e; rest = es; numbers = numbers }) field bytes r x

back_count : (es : List TermPostings) (numbers : List (Option ℕ)) (old new : List Waiting) → IsPutBack (waiting es numbers) old new → entry_count new ≡ length es + entry_count old
back_count [] numbers old new is = omega (arith, ap entry_count is)
back_count (e ∷ es) numbers old new is = omega (arith, ap entry_count is.2, count_put old is.0 (record { first = e; rest = es; numbers = numbers }))

some_map : (P Q : Waiting → Type 0) (o : Option Waiting) → ((w : Waiting) → P w → Q w) → IfSome o P → IfSome o Q
some_map P Q None f h = h
some_map P Q (Some w) f h = f w h

-- the entries behind the first one can wait too
pub can_rest : (e : TermPostings) (es : List TermPostings) (numbers : List (Option ℕ)) → CanMove (record { terms = e ∷ es; numbers = numbers }) → IfSome (waiting es numbers) CanWait
can_rest e [] numbers can = tt
can_rest e (f ∷ es) numbers can = record { ordered = tail_ordered e (f ∷ es) can.ordered; rise = can.rise }

-- a source that is put at the end
pub back_end : (o : Option Waiting) (w : Waiting) (old new : List Waiting) → o ≡ Some w → new ≡ old ++ w ∷ [] → IsPutBack o old new
back_end o w old new some is = subst (λ (x : Option Waiting). IsPutBack x old new) (sym some) (length old, omega arith, is ∙ sym (put_last old w))

pub back_none : (o : Option Waiting) (old new : List Waiting) → o ≡ None → new ≡ old → IsPutBack o old new
back_none o old new none is = subst (λ (x : Option Waiting). IsPutBack x old new) (sym none) is

-- ---- an entry was taken

-- An entry of a source was taken, which is of the least term: what the sources had is at its places, or is there
-- still.
record Passed (u : Term) (cur new : List Waiting) (h : Waiting) : Type 0 where
  exact : (field bytes : List ℕ) (r x : ℕ) → any_waiting cur field bytes r x
      ≡ ((is_named field bytes u && moved_at h.numbers h.first.rows r x) || any_waiting new field bytes r x)
  from : StartFrom u new
  later : (t : Term) → StartAbove t cur → StartAbove t new
  can : AllByRecursion CanWait cur → AllByRecursion CanWait new
  less : entry_count new < entry_count cur

passed : (u : Term) (cur new : List Waiting) (h : Waiting) → StartFrom u cur → h.first.term ≡ u → IsPassed h cur new → Passed u cur new h
passed u cur new h low named pass = record {
  exact = λ field bytes r x.
      ap (λ (ws : List Waiting). any_waiting ws field bytes r x) pass.was.2
      ∙ any_put pass.others pass.was.0 h field bytes r x
      ∙ ap (λ (t : Term). ((is_named field bytes t && moved_at h.numbers h.first.rows r x) || moved h.numbers h.rest field bytes r x) || any_waiting pass.others field bytes r x) named
      ∙ sym (or_assoc (is_named field bytes u && moved_at h.numbers h.first.rows r x) (moved h.numbers h.rest field bytes r x) (any_waiting pass.others field bytes r x))
      ∙ ap (λ (b : Bool). (is_named field bytes u && moved_at h.numbers h.first.rows r x) || b) (sym (back_any h.rest h.numbers pass.others new pass.back field bytes r x));
  from = back_all (λ (w : Waiting). IsBelow w.first.term u → ⊥) (waiting h.rest h.numbers) pass.others new pass.back
      (all_others (λ (w : Waiting). IsBelow w.first.term u → ⊥) pass.others pass.was.0 h (subst (StartFrom u) pass.was.2 low))
      (some_map (λ (w : Waiting). IsBelow h.first.term w.first.term) (λ (w : Waiting). IsBelow w.first.term u → ⊥) (waiting h.rest h.numbers)
      (λ w l. above_not_below u w.first.term (subst (λ (t : Term). IsBelow t w.first.term) named l)) pass.rises);
  later = λ t all.
      let there = subst (StartAbove t) pass.was.2 all in
      back_all (λ (w : Waiting). IsBelow t w.first.term) (waiting h.rest h.numbers) pass.others new pass.back
      (all_others (λ (w : Waiting). IsBelow t w.first.term) pass.others pass.was.0 h there)
      (some_map (λ (w : Waiting). IsBelow h.first.term w.first.term) (λ (w : Waiting). IsBelow t w.first.term) (waiting h.rest h.numbers)
      (λ w l. term_total.trans t h.first.term w.first.term (all_one (λ (v : Waiting). IsBelow t v.first.term) pass.others pass.was.0 h there) l) pass.rises);
  can = λ all.
      let there = subst (AllByRecursion CanWait) pass.was.2 all in
      back_all CanWait (waiting h.rest h.numbers) pass.others new pass.back (all_others CanWait pass.others pass.was.0 h there) (can_rest h.first h.rest h.numbers (all_one CanWait pass.others pass.was.0 h there));
  less = omega (arith, back_count h.rest h.numbers pass.others new pass.back, ap entry_count pass.was.2, count_put pass.others pass.was.0 h);
}

-- the first entry
pub first_taken : (u : Term) (old new : List Waiting) (h : Waiting) (none place : ℕ → ℕ → Bool) → StartFrom u old → ((r x : ℕ) → none r x ≡ false) → h.first.term ≡ u
    → AddsPlaces h none place → IsPassed h old new → Taken u old new place
first_taken u old new h none place low empty named put pass =
    let p = passed u old new h low named pass in
    record {
      exact = λ field bytes r x.
          p.exact field bytes r x
          ∙ ap (λ (b : Bool). (is_named field bytes u && b) || any_waiting new field bytes r x) (sym (put r x ∙ ap (λ (b : Bool). b || moved_at h.numbers h.first.rows r x) (empty r x)));
      from = p.from;
      later = p.later;
      can = p.can;
      fewer = p.less;
    }

spread : (n p m c : Bool) → ((n && p) || ((n && m) || c)) ≡ ((n && (p || m)) || c)
spread true p m c = or_assoc p m c
spread false p m c = refl

-- one more
pub more_taken : (u : Term) (old cur new : List Waiting) (h : Waiting) (place more : ℕ → ℕ → Bool) → Taken u old cur place → h.first.term ≡ u
    → AddsPlaces h place more → IsPassed h cur new → Taken u old new more
more_taken u old cur new h place more taken named put pass =
    let p = passed u cur new h taken.from named pass in
    record {
      exact = λ field bytes r x.
          taken.exact field bytes r x
          ∙ ap (λ (b : Bool). (is_named field bytes u && place r x) || b) (p.exact field bytes r x)
          ∙ spread (is_named field bytes u) (place r x) (moved_at h.numbers h.first.rows r x) (any_waiting new field bytes r x)
          ∙ ap (λ (b : Bool). (is_named field bytes u && b) || any_waiting new field bytes r x) (sym (put r x));
      from = p.from;
      later = λ t all. p.later t (taken.later t all);
      can = λ all. p.can (taken.can all);
      fewer = omega (arith, p.less, taken.fewer);
    }

pub less_left : (h : Waiting) (cur new : List Waiting) → IsPassed h cur new → entry_count new < entry_count cur
less_left h cur new pass = omega (arith, back_count h.rest h.numbers pass.others new pass.back, ap entry_count pass.was.2, count_put pass.others pass.was.0 h)

-- ---- all was taken

-- none waits
pub none_left : (u : Term) (old cur : List Waiting) (place : ℕ → ℕ → Bool) → Taken u old cur place → cur ≡ [] → TakenAll u old cur place
none_left u old cur place taken is = record { taken = taken; above = subst (StartAbove u) (sym is) tt }

-- the least term that is left is another one
pub other_left : (u : Term) (old cur : List Waiting) (w : Waiting) (place : ℕ → ℕ → Bool) → Taken u old cur place → StartFrom w.first.term cur
    → (IsBelow w.first.term u → ⊥) → (w.first.term ≡ u → ⊥) → TakenAll u old cur place
other_left u old cur w place taken from low not = record { taken = taken; above = above cur from }
  where
    least : IsBelow u w.first.term
    least = elim (tri u w.first.term) [ inl l ↦ l | inr h ↦ elim h [ inl e ↦ absurd (not (sym e)) | inr l ↦ absurd (low l) ] ]

    above : (vs : List Waiting) → StartFrom w.first.term vs → StartAbove u vs
    above [] all = tt
    above (v ∷ vs) all = (below_through u w.first.term v.first.term least all.0, above vs all.1)
