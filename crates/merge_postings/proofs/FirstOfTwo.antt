-- Sources by their next terms: the one of two that is taken first, and the least of some.
use Rattle.std.proofs.Common.{◌≡◌, ◌≢◌, ℕ, ◌+◌, ◌<◌, ◌≤◌, List, length, get_or, Option, Some, ◌⊎◌, inl, inr, min, refl, sym, ap, ◌∙◌, subst, arith}
use Rattle.std.specs.Option.{IfSome}
use Rattle.std.specs.Ordering.{ordering_reverse}
use Rattle.std.specs.declared.cmp.Ordering.{Ordering}
use Rattle.std.specs.declared.cmp.Ordering.TheVariants.{Less, Equal, Greater}
use Rattle.std.proofs.lemmas.Bool.{cases_lt}
use Rattle.std.proofs.lemmas.List.{get_or_default}
use Rattle.ix_base.specs.Inversion.{term_cmp}
use Rattle.ix_base.specs.declared.document.Term.{Term}
use Rattle.ix_base.proofs.TermOrder.{term_same, term_total}
use Rattle.merge_postings.specs.Keys.{KeysTerm}
use Rattle.merge_postings.specs.declared.key.Key.{Key}
use Rattle.merge_postings.specs.Tree.{IsFirstOf, IsKeyed, IsLeast, term_of}
use Rattle.merge_postings.specs.Walk.{IsBelow, Waiting}
use Rattle.merge_postings.proofs.Queued.{above_not_below, equal_not_below, less_not_itself}

itself_at : (heads : List Waiting) (i : ℕ) (d : Waiting) → IsBelow (term_of heads i d) (term_of heads i d) → ⊥
itself_at heads i d low = less_not_itself (term_of heads i d) low

-- how the next terms of two sources are ordered
abbrev pub IsOrder : List Waiting → ℕ → ℕ → Ordering → Type 0
IsOrder heads i j o = (d : Waiting) → o ≡ term_cmp (term_of heads i d) (term_of heads j d)

greater_below : (a b : Term) → Greater ≡ term_cmp a b → IsBelow b a
greater_below a b e = term_total.antisymm b a ∙ ap ordering_reverse (sym e)

pub less_first : (heads : List Waiting) (i j : ℕ) → IsOrder heads i j Less → IsFirstOf heads i j i
less_first heads i j order = record {
  of = inl refl;
  one_upto = itself_at heads i;
  other_upto = λ d low. above_not_below (term_of heads i d) (term_of heads j d) (sym (order d)) low;
}

pub greater_first : (heads : List Waiting) (i j : ℕ) → IsOrder heads i j Greater → IsFirstOf heads i j j
greater_first heads i j order = record {
  of = inr refl;
  one_upto = λ d low. above_not_below (term_of heads j d) (term_of heads i d) (greater_below (term_of heads i d) (term_of heads j d) (order d)) low;
  other_upto = itself_at heads j;
}

pub equal_first : (heads : List Waiting) (i j r : ℕ) → IsOrder heads i j Equal → (r ≡ i) ⊎ (r ≡ j) → IsFirstOf heads i j r
equal_first heads i j r order (inl e) = record {
  of = inl e;
  one_upto = λ d low. itself_at heads i d (subst (λ (k : ℕ). IsBelow (term_of heads i d) (term_of heads k d)) e low);
  other_upto = λ d low.
      equal_not_below (term_of heads j d) (term_of heads i d) (sym (term_same (term_of heads i d) (term_of heads j d) (sym (order d))))
      (subst (λ (k : ℕ). IsBelow (term_of heads j d) (term_of heads k d)) e low);
}
equal_first heads i j r order (inr e) = record {
  of = inr e;
  one_upto = λ d low.
      equal_not_below (term_of heads i d) (term_of heads j d) (term_same (term_of heads i d) (term_of heads j d) (sym (order d)))
      (subst (λ (k : ℕ). IsBelow (term_of heads i d) (term_of heads k d)) e low);
  other_upto = λ d low. itself_at heads j d (subst (λ (k : ℕ). IsBelow (term_of heads j d) (term_of heads k d)) e low);
}

pub least_of_two : (i j r : ℕ) → r ≡ min i j → (r ≡ i) ⊎ (r ≡ j)
least_of_two i j r e = go (cases_lt i j)
  where
    go : (i < j) ⊎ (j ≤ i) → (r ≡ i) ⊎ (r ≡ j)
    go (inl l) = inl (omega (arith, e))
    go (inr g) = inr (omega (arith, e))

-- the order of two sources' next terms by their texts
pub order_by_texts : (heads : List Waiting) (i j : ℕ) (a b : Waiting) (t u : Term) (o : Ordering) → i < length heads → j < length heads → a ≡ get_or heads i a → b ≡ get_or heads j b
    → t ≡ a.first.term → u ≡ b.first.term → o ≡ term_cmp t u → IsOrder heads i j o
order_by_texts heads i j a b t u o p q is is' at at' e d =
    let one : t ≡ term_of heads i d = at ∙ ap (λ (w : Waiting). w.first.term) (is ∙ get_or_default heads i a d p) in
    let other : u ≡ term_of heads j d = at' ∙ ap (λ (w : Waiting). w.first.term) (is' ∙ get_or_default heads j b d q) in
    e ∙ (λ k. term_cmp (one k) (other k))

-- by their keys
pub order_by_keyed : (heads : List Waiting) (keys : List Key) (field : List ℕ) (i j : ℕ) (k l : Key) (o : Option Ordering) → IsKeyed field heads keys → i < length heads → j < length heads
    → ((f : List ℕ) (a b : Term) → KeysTerm f (get_or keys i k) a → KeysTerm f (get_or keys j l) b → IfSome o (λ (x : Ordering). x ≡ term_cmp a b))
    → (x y : Ordering) → o ≡ Some x → x ≡ y → IsOrder heads i j y
order_by_keyed heads keys field i j k l o keyed p q told x y some is d =
    sym is
    ∙ subst (λ (z : Option Ordering). IfSome z (λ (v : Ordering). v ≡ term_cmp (term_of heads i d) (term_of heads j d))) some
    (told field (term_of heads i d) (term_of heads j d) (keyed.each i d k p) (keyed.each j d l q))

pub first_within : (heads : List Waiting) (i j r : ℕ) → i < length heads → j < length heads → IsFirstOf heads i j r → r < length heads
first_within heads i j r p q first = elim first.of [
  | inl e ↦ subst (λ (k : ℕ). k < length heads) (sym e) p
  | inr e ↦ subst (λ (k : ℕ). k < length heads) (sym e) q
]

-- ---- the least of some sources

-- one source more was looked at
pub least_more : (heads : List Waiting) (place least new : ℕ) (o : Ordering) → IsLeast heads place least → place < length heads → IsOrder heads place least o
    → ((o ≡ Less) × (new ≡ place)) ⊎ ((o ≢ Less) × (new ≡ least)) → IsLeast heads (place + 1) new
least_more heads place least new o h lt order (inl p) = subst (IsLeast heads (place + 1)) (sym p.1) (record {
  within = lt;
  least = λ i d in' low. go i d in' low (cases_lt i place);
})
  where
    here : (d : Waiting) → IsBelow (term_of heads place d) (term_of heads least d)
    here d = sym (order d) ∙ p.0

    go : (i : ℕ) (d : Waiting) → i < place + 1 → IsBelow (term_of heads i d) (term_of heads place d) → (i < place) ⊎ (place ≤ i) → ⊥
    go i d in' low (inl l) = h.least i d l (term_total.trans (term_of heads i d) (term_of heads place d) (term_of heads least d) low (here d))
    go i d in' low (inr g) =
        let e : i ≡ place = omega arith in
        itself_at heads place d (subst (λ (k : ℕ). IsBelow (term_of heads k d) (term_of heads place d)) e low)
least_more heads place least new o h lt order (inr p) = subst (IsLeast heads (place + 1)) (sym p.1) (record {
  within = h.within;
  least = λ i d in' low. go i d in' low (cases_lt i place);
})
  where
    go : (i : ℕ) (d : Waiting) → i < place + 1 → IsBelow (term_of heads i d) (term_of heads least d) → (i < place) ⊎ (place ≤ i) → ⊥
    go i d in' low (inl l) = h.least i d l low
    go i d in' low (inr g) =
        let e : i ≡ place = omega arith in
        p.0 (order d ∙ subst (λ (k : ℕ). IsBelow (term_of heads k d) (term_of heads least d)) e low)
