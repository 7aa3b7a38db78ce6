-- The keys of sources that wait, beside a field.
use Rattle.std.proofs.Common.{◌≡◌, ◌≢◌, ℕ, zero, suc, ◌<◌, ◌≤◌, List, [], ◌∷◌, length, get_or, ◌⊎◌, inl, inr, sym, ap, ◌∙◌, subst, arith}
use Rattle.std.specs.List.{remove, slice_set}
use Rattle.std.proofs.lemmas.Bool.{cases_lt}
use Rattle.std.proofs.lemmas.List.{get_or-set_same, get_or-set_other, length-set}
use Rattle.merge_postings.specs.Keys.{KeysTerm}
use Rattle.merge_postings.specs.declared.key.Key.{Key}
use Rattle.merge_postings.specs.Tree.{IsFirst, IsKeyed, Queued, term_of}
use Rattle.merge_postings.specs.Walk.{Waiting}
use Rattle.merge_postings.proofs.Queued.{removed_other}

-- the key of the least next term
pub key_of_first : (heads : List Waiting) (keys : List Key) (q : Queued) (place : ℕ) (w : Waiting) (k : Key) → IsKeyed q.field heads keys → q.waiting ≡ heads → place ≡ q.place
    → k ≡ get_or keys place k → IsFirst q w → KeysTerm q.field k w.first.term
key_of_first heads keys q place w k keyed all at is first =
    let here : get_or heads place w ≡ w = (λ i. get_or (sym all i) (at i) w) ∙ first.is w in
    let lt : place < length heads = omega (arith, first.within, ap (λ (l : List Waiting). length l) all, at) in
    subst (λ (v : Waiting). KeysTerm q.field k v.first.term) here
    (subst (λ (m : Key). KeysTerm q.field m (get_or heads place w).first.term) (sym is) (keyed.each place w k lt))

-- the key of the source at a place
pub keyed_at : (field : List ℕ) (heads : List Waiting) (keys : List Key) (place : ℕ) (w : Waiting) (k : Key) → IsKeyed field heads keys → place < length heads
    → w ≡ get_or heads place w → k ≡ get_or keys place k → KeysTerm field k w.first.term
keyed_at field heads keys place w k keyed lt is is' =
    subst (λ (x : Key). KeysTerm field x w.first.term) (sym is')
    (subst (λ (x : Waiting). KeysTerm field (get_or keys place k) x.first.term) (sym is) (keyed.each place w k lt))

-- a source and its key that are others
pub keyed_passed : (field : List ℕ) (heads : List Waiting) (keys : List Key) (place : ℕ) (w v : Waiting) (k m : Key) → IsKeyed field heads keys → place < length heads
    → w ≡ get_or heads place w → k ≡ get_or keys place k → (KeysTerm field k w.first.term → KeysTerm field m v.first.term)
    → IsKeyed field (slice_set heads place v) (slice_set keys place m)
keyed_passed field heads keys place w v k m keyed lt is is' passed = record {
  all = length-set keys place m ∙ keyed.all ∙ sym (length-set heads place v);
  each = λ i d e in'. go i d e (omega (arith, in', length-set heads place v)) (cases_lt i place) (cases_lt place i);
}
  where
    here : KeysTerm field m v.first.term
    here = passed (keyed_at field heads keys place w k keyed lt is is')

    other : (i : ℕ) (d : Waiting) (e : Key) → i < length heads → i ≢ place → KeysTerm field (get_or (slice_set keys place m) i e) (term_of (slice_set heads place v) i d)
    other i d e in' not =
        subst (λ (x : Key). KeysTerm field x (term_of (slice_set heads place v) i d)) (sym (get_or-set_other keys place i m e not))
        (subst (λ (x : Waiting). KeysTerm field (get_or keys i e) x.first.term) (sym (get_or-set_other heads place i v d not)) (keyed.each i d e in'))

    go : (i : ℕ) (d : Waiting) (e : Key) → i < length heads → (i < place) ⊎ (place ≤ i) → (place < i) ⊎ (i ≤ place) → KeysTerm field (get_or (slice_set keys place m) i e) (term_of (slice_set heads place v) i d)
    go i d e in' (inl l) b = other i d e in' (λ f. absurd (omega (arith, f)))
    go i d e in' (inr a) (inl b) = other i d e in' (λ f. absurd (omega (arith, f)))
    go i d e in' (inr a) (inr b) =
        let at : place ≡ i = omega arith in
        subst (λ (j : ℕ). KeysTerm field (get_or (slice_set keys place m) j e) (term_of (slice_set heads place v) j d)) at
        (subst (λ (x : Key). KeysTerm field x (term_of (slice_set heads place v) place d)) (sym (get_or-set_same keys place m e (omega (arith, lt, keyed.all))))
        (subst (λ (x : Waiting). KeysTerm field m x.first.term) (sym (get_or-set_same heads place v d lt)) here))

keyed_behind : (field : List ℕ) (w : Waiting) (ws : List Waiting) (k : Key) (ks : List Key) → IsKeyed field (w ∷ ws) (k ∷ ks) → IsKeyed field ws ks
keyed_behind field w ws k ks h = record { all = omega (arith, h.all); each = λ i d e lt. h.each (suc i) d e (omega arith) }

keyed_one : (field : List ℕ) (w : Waiting) (ws : List Waiting) (k : Key) (ks : List Key) → KeysTerm field k w.first.term → IsKeyed field ws ks → IsKeyed field (w ∷ ws) (k ∷ ks)
keyed_one field w ws k ks first h = record { all = omega (arith, h.all); each = λ i d e lt. at i d e lt }
  where
    at : (i : ℕ) (d : Waiting) (e : Key) → i < length (w ∷ ws) → KeysTerm field (get_or (k ∷ ks) i e) (term_of (w ∷ ws) i d)
    at zero d e lt = first
    at (suc i) d e lt = h.each i d e (omega arith)

keyed_less : (field : List ℕ) (heads : List Waiting) (keys : List Key) (place : ℕ) → IsKeyed field heads keys → place < length heads → IsKeyed field (remove heads place) (remove keys place)
keyed_less field [] keys place h lt = absurd (omega arith)
keyed_less field (w ∷ ws) [] place h lt = absurd (omega (arith, h.all))
keyed_less field (w ∷ ws) (k ∷ ks) zero h lt = keyed_behind field w ws k ks h
keyed_less field (w ∷ ws) (k ∷ ks) (suc place) h lt =
    keyed_one field w (remove ws place) k (remove ks place) (h.each 0 w k (omega arith)) (keyed_less field ws ks place (keyed_behind field w ws k ks h) (omega arith))

-- a source that is gone, with its key
pub keyed_removed : (field : List ℕ) (heads : List Waiting) (keys : List Key) (place : ℕ) (v : Waiting) → IsKeyed field heads keys → place < length heads
    → IsKeyed field (remove (slice_set heads place v) place) (remove keys place)
keyed_removed field heads keys place v h lt =
    subst (λ (ws : List Waiting). IsKeyed field ws (remove keys place)) (sym (removed_other heads place v)) (keyed_less field heads keys place h lt)
