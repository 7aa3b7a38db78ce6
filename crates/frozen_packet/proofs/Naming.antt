-- Numbers set one after another by names.
use Rattle.std.proofs.Common.{◌≡◌, ◌∙◌, ℕ, ℤ, List, [], ◌∷◌, ◌⊎◌, refl, sym, ap, inl, inr}
use Rattle.std.specs.Cmp.Lexicographic.{slice_cmp}
use Rattle.std.specs.Ordering.{nat_cmp, match_ordering, ordering_reverse}
use Rattle.std.specs.declared.cmp.Ordering.{Ordering}
use Rattle.std.specs.declared.cmp.Ordering.TheVariants.{Less, Equal, Greater}
use Rattle.std.proofs.lemmas.Cmp.{nat_list_cmp_total, tied_itself}
use Rattle.ix_base.specs.Steps.{Named, with_number}
use Rattle.ix_base.proofs.TermOrder.{text_same}

abbrev order : List ℕ → List ℕ → Ordering
order = slice_cmp nat_cmp

reversed : (a b : List ℕ) (o : Ordering) → order a b ≡ o → order b a ≡ ordering_reverse o
reversed a b o e = nat_list_cmp_total.antisymm b a ∙ ap ordering_reverse e

-- where a number is put, by the order of its name and the first one's
put_at : (name : List ℕ) (value : ℤ) (n : Named) (ns : List Named) (o : Ordering) → order name n.0 ≡ o
    → with_number name value (n ∷ ns) ≡ match_ordering o ((name, value) ∷ n ∷ ns) ((name, value) ∷ ns) (n ∷ with_number name value ns)
put_at name value n ns o e =
    ap (λ (p : Ordering). match_ordering p ((name, value) ∷ n ∷ ns) ((name, value) ∷ ns) (n ∷ with_number name value ns)) e

-- of two numbers by one name the last counts
pub set_over : (name : List ℕ) (v w : ℤ) (ns : List Named) → with_number name w (with_number name v ns) ≡ with_number name w ns
set_over name v w [] = put_at name w (name, v) [] Equal (tied_itself nat_list_cmp_total name)
set_over name v w (n ∷ ns) = by (order name n.0) refl (set_over name v w ns)
  where
    by : (o : Ordering) → order name n.0 ≡ o → with_number name w (with_number name v ns) ≡ with_number name w ns
        → with_number name w (with_number name v (n ∷ ns)) ≡ with_number name w (n ∷ ns)
    by Less e more =
        ap (with_number name w) (put_at name v n ns Less e)
        ∙ put_at name w (name, v) (n ∷ ns) Equal (tied_itself nat_list_cmp_total name)
        ∙ sym (put_at name w n ns Less e)
    by Equal e more =
        ap (with_number name w) (put_at name v n ns Equal e)
        ∙ put_at name w (name, v) ns Equal (tied_itself nat_list_cmp_total name)
        ∙ sym (put_at name w n ns Equal e)
    by Greater e more =
        ap (with_number name w) (put_at name v n ns Greater e)
        ∙ put_at name w n (with_number name v ns) Greater e
        ∙ ap (λ (ms : List Named). n ∷ ms) more
        ∙ sym (put_at name w n ns Greater e)

-- numbers by two names may be set in any order
swap_less : (a b : List ℕ) (v w : ℤ) → order a b ≡ Less → (ns : List Named) → with_number a v (with_number b w ns) ≡ with_number b w (with_number a v ns)
swap_less a b v w lt [] = put_at a v (b, w) [] Less lt ∙ sym (put_at b w (a, v) [] Greater (reversed a b Less lt))
swap_less a b v w lt (n ∷ ns) = by (order a n.0) refl (swap_less a b v w lt ns)
  where
    after : order b a ≡ Greater
    after = reversed a b Less lt

    -- the first is put before n
    before : (o : Ordering) → order b n.0 ≡ o → order a n.0 ≡ Less → with_number a v (with_number b w (n ∷ ns)) ≡ (a, v) ∷ with_number b w (n ∷ ns)
    before Less q p = ap (with_number a v) (put_at b w n ns Less q) ∙ put_at a v (b, w) (n ∷ ns) Less lt ∙ ap (λ (ms : List Named). (a, v) ∷ ms) (sym (put_at b w n ns Less q))
    before Equal q p = ap (with_number a v) (put_at b w n ns Equal q) ∙ put_at a v (b, w) ns Less lt ∙ ap (λ (ms : List Named). (a, v) ∷ ms) (sym (put_at b w n ns Equal q))
    before Greater q p =
        ap (with_number a v) (put_at b w n ns Greater q) ∙ put_at a v n (with_number b w ns) Less p ∙ ap (λ (ms : List Named). (a, v) ∷ ms) (sym (put_at b w n ns Greater q))

    by : (o : Ordering) → order a n.0 ≡ o → with_number a v (with_number b w ns) ≡ with_number b w (with_number a v ns)
        → with_number a v (with_number b w (n ∷ ns)) ≡ with_number b w (with_number a v (n ∷ ns))
    by Less p more =
        before (order b n.0) refl p
        ∙ sym (ap (with_number b w) (put_at a v n ns Less p) ∙ put_at b w (a, v) (n ∷ ns) Greater after)
    by Equal p more =
        let behind : order b n.0 ≡ Greater = reversed n.0 b Less (sym (nat_list_cmp_total.congr a n.0 b p) ∙ lt) in
        ap (with_number a v) (put_at b w n ns Greater behind) ∙ put_at a v n (with_number b w ns) Equal p
        ∙ sym (ap (with_number b w) (put_at a v n ns Equal p) ∙ put_at b w (a, v) ns Greater after)
    by Greater p more =
        let behind : order b n.0 ≡ Greater = reversed n.0 b Less (nat_list_cmp_total.trans n.0 a b (reversed a n.0 Greater p) lt) in
        ap (with_number a v) (put_at b w n ns Greater behind) ∙ put_at a v n (with_number b w ns) Greater p
        ∙ ap (λ (ms : List Named). n ∷ ms) more
        ∙ sym (ap (with_number b w) (put_at a v n ns Greater p) ∙ put_at b w n (with_number a v ns) Greater behind)

-- Of two numbers set one after the other the first may come last, or it is set over.
pub swap_or_over : (a b : List ℕ) (v w : ℤ) (ns : List Named)
    → (with_number b w (with_number a v ns) ≡ with_number a v (with_number b w ns)) ⊎ (with_number b w (with_number a v ns) ≡ with_number b w ns)
swap_or_over a b v w ns = by (order a b) refl
  where
    by : (o : Ordering) → order a b ≡ o
        → (with_number b w (with_number a v ns) ≡ with_number a v (with_number b w ns)) ⊎ (with_number b w (with_number a v ns) ≡ with_number b w ns)
    by Less e = inl (sym (swap_less a b v w e ns))
    by Equal e = inr (ap (λ (c : List ℕ). with_number b w (with_number c v ns)) (text_same a b e) ∙ set_over b v w ns)
    by Greater e = inl (swap_less b a w v (reversed a b Greater e) ns)
