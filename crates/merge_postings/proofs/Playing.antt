-- Sources that play against one another in a tree.
use Rattle.std.proofs.Common.{◌≡◌, ◌≢◌, ℕ, ◌+◌, ◌*◌, ◌/◌, ◌<◌, ◌≤◌, List, length, get_or, ◌⊎◌, inl, inr, sym, ap, ◌∙◌, subst, arith}
use Rattle.std.specs.List.{slice_set}
use Rattle.std.proofs.lemmas.Bool.{cases_lt}
use Rattle.std.proofs.lemmas.List.{get_or-set_other, length-set}
use Rattle.ix_base.specs.declared.document.Term.{Term}
use Rattle.merge_postings.specs.Tree.{IsOfBelow, IsPlayed, IsUpto, IsWithin, Plays, term_of, winner_of}
use Rattle.merge_postings.specs.Walk.{IsBelow, Waiting}
use Rattle.merge_postings.proofs.Nodes.{IsAbove, start, above_split, above_parent, above_none, winner_place}
use Rattle.merge_postings.proofs.TwoPlay.{other_node, this_node, plays_within, twice_not, twice_more_not, upto_by}

-- ---- all but those above a node have played

pub record IsPlayedBut (node : ℕ) (heads : List Waiting) (wins : List ℕ) : Type 0 where
  pub within : IsWithin (length heads) wins
  pub below : (x : ℕ) → 1 ≤ x → x < length heads → (IsAbove node x → ⊥) → IsOfBelow wins (length heads) x
  pub first : (y : ℕ) → 2 ≤ y → y < 2 * length heads → (IsAbove node (y / 2) → ⊥) → IsUpto heads wins y (y / 2)

pub played_end : (heads : List Waiting) (wins : List ℕ) → IsPlayedBut 0 heads wins → IsPlayed heads wins
played_end heads wins h = record {
  within = h.within;
  below = λ x one lt. h.below x one lt (λ a. absurd (omega (arith, above_none x a)));
  first = λ y two lt. h.first y two lt (λ a. absurd (omega (arith, above_none (y / 2) a)));
}

pub play_step : (heads : List Waiting) (old new : List ℕ) (node : ℕ) → 1 ≤ node → node < length heads → IsPlayedBut node heads old → Plays heads old node new → IsPlayedBut (node / 2) heads new
play_step heads old new node one lt h p = record {
  within = plays_within heads old new node p one lt h.within;
  below = λ x a b not. below x a b not (cases_lt x node) (cases_lt node x);
  first = λ y two l not. first y two l not (cases_lt (y / 2) node) (cases_lt node (y / 2));
}
  where
    n : ℕ
    n = length heads

    here : winner_of new (length heads) node ≡ p.winner
    here = this_node heads old new node p lt h.within.all

    same : (x : ℕ) → x ≢ node → winner_of new (length heads) x ≡ winner_of old (length heads) x
    same = other_node heads old new node p

    below_here : IsOfBelow new (length heads) node
    below_here = elim p.of [
      | inl e ↦ inl (here ∙ e ∙ sym (same (2 * node) (twice_not node one)))
      | inr e ↦ inr (here ∙ e ∙ sym (same (2 * node + 1) (twice_more_not node)))
    ]

    below_other : (x : ℕ) → 1 ≤ x → x < length heads → (IsAbove (node / 2) x → ⊥) → x ≢ node → IsOfBelow new (length heads) x
    below_other x a b not other =
        let still = h.below x a b (λ above. elim (above_split node x above) [ inl e ↦ absurd (other (sym e)) | inr m ↦ not m ]) in
        let first_not : 2 * x ≢ node = λ e. absurd (not (start (node / 2) x (omega (arith, e)))) in
        let second_not : 2 * x + 1 ≢ node = λ e. absurd (not (start (node / 2) x (omega (arith, e)))) in
        elim still [
          | inl e ↦ inl (same x other ∙ e ∙ sym (same (2 * x) first_not))
          | inr e ↦ inr (same x other ∙ e ∙ sym (same (2 * x + 1) second_not))
        ]

    below : (x : ℕ) → 1 ≤ x → x < length heads → (IsAbove (node / 2) x → ⊥) → (x < node) ⊎ (node ≤ x) → (node < x) ⊎ (x ≤ node) → IsOfBelow new (length heads) x
    below x a b not (inl l) c = below_other x a b not (λ e. absurd (omega (arith, e)))
    below x a b not (inr g) (inl l) = below_other x a b not (λ e. absurd (omega (arith, e)))
    below x a b not (inr g) (inr k) = let e : node ≡ x = omega arith in subst (IsOfBelow new (length heads)) e below_here

    first_here : (y : ℕ) → y / 2 ≡ node → IsUpto heads new y (y / 2)
    first_here y e = go (cases_lt y (2 * node + 1))
      where
        not : y ≢ node
        not f = absurd (omega (arith, e, f, one))

        top : p.winner ≡ winner_of new (length heads) (y / 2)
        top = sym here ∙ ap (winner_of new (length heads)) (sym e)

        go : (y < 2 * node + 1) ⊎ (2 * node + 1 ≤ y) → IsUpto heads new y (y / 2)
        go (inl l) =
            let is : 2 * node ≡ y = omega (arith, e) in
            upto_by heads (winner_of old (length heads) (2 * node)) p.winner (winner_of new (length heads) y) (winner_of new (length heads) (y / 2)) (ap (winner_of old (length heads)) is ∙ sym (same y not)) top p.left
        go (inr g) =
            let is : 2 * node + 1 ≡ y = omega (arith, e) in
            upto_by heads (winner_of old (length heads) (2 * node + 1)) p.winner (winner_of new (length heads) y) (winner_of new (length heads) (y / 2)) (ap (winner_of old (length heads)) is ∙ sym (same y not)) top p.right

    first_other : (y : ℕ) → 2 ≤ y → y < 2 * length heads → (IsAbove (node / 2) (y / 2) → ⊥) → y / 2 ≢ node → IsUpto heads new y (y / 2)
    first_other y two l not other =
        let still = h.first y two l (λ above. elim (above_split node (y / 2) above) [ inl e ↦ absurd (other (sym e)) | inr m ↦ not m ]) in
        let away : y ≢ node = λ e. absurd (not (start (node / 2) (y / 2) (ap (λ (k : ℕ). k / 2) (sym e)))) in
        upto_by heads (winner_of old (length heads) y) (winner_of old (length heads) (y / 2)) (winner_of new (length heads) y) (winner_of new (length heads) (y / 2)) (sym (same y away)) (sym (same (y / 2) other)) still

    first : (y : ℕ) → 2 ≤ y → y < 2 * length heads → (IsAbove (node / 2) (y / 2) → ⊥) → (y / 2 < node) ⊎ (node ≤ y / 2) → (node < y / 2) ⊎ (y / 2 ≤ node) → IsUpto heads new y (y / 2)
    first y two l not (inl a) c = first_other y two l not (λ e. absurd (omega (arith, e)))
    first y two l not (inr a) (inl b) = first_other y two l not (λ e. absurd (omega (arith, e)))
    first y two l not (inr a) (inr b) = first_here y (omega arith)

-- ---- a source that isn't as it was

pub played_start : (old heads : List Waiting) (wins : List ℕ) (place : ℕ) (source : Waiting) → IsPlayed old wins → heads ≡ slice_set old place source → place < length heads
    → IsPlayedBut ((length heads + place) / 2) heads wins
played_start old heads wins place source played is lt = record {
  within = subst (λ (n : ℕ). IsWithin n wins) (sym same) played.within;
  below = λ x a b not. below x a b;
  first = λ y two l not. first y two l not;
}
  where
    same : length heads ≡ length old
    same = ap length is ∙ length-set old place source

    below : (x : ℕ) → 1 ≤ x → x < length heads → IsOfBelow wins (length heads) x
    below x a b = subst (λ (n : ℕ). IsOfBelow wins n x) (sym same) (played.below x a (omega (arith, same)))

    unchanged : (i : ℕ) (d : Waiting) → i ≢ place → term_of heads i d ≡ term_of old i d
    unchanged i d not = ap (λ (l : List Waiting). (get_or l i d).first.term) is ∙ ap (λ (w : Waiting). w.first.term) (get_or-set_other old place i source d not)

    first : (y : ℕ) → 2 ≤ y → y < 2 * length heads → (IsAbove ((length heads + place) / 2) (y / 2) → ⊥) → IsUpto heads wins y (y / 2)
    first y two l not d low =
        let m : ℕ = (length heads + place) / 2 in
        let child : winner_of wins (length heads) y ≢ place = λ e.
        elim (winner_place wins (length heads) place below (2 * length heads) y (omega arith) l (omega arith) e) [
          | inl q ↦ absurd (not (start m (y / 2) (ap (λ (k : ℕ). k / 2) (sym q))))
          | inr a ↦ absurd (not (above_parent m y a))
        ] in
        let parent : winner_of wins (length heads) (y / 2) ≢ place = λ e.
        elim (winner_place wins (length heads) place below (2 * length heads) (y / 2) (omega arith) (omega arith) (omega arith) e) [
          | inl q ↦ absurd (omega (arith, q, l))
          | inr a ↦ absurd (not a)
        ] in
        played.first y two (omega (arith, same)) d
        (subst (λ (n : ℕ). IsBelow (term_of old (winner_of wins n y) d) (term_of old (winner_of wins n (y / 2)) d)) same
        (subst (λ (t : Term). IsBelow t (term_of old (winner_of wins (length heads) (y / 2)) d)) (unchanged (winner_of wins (length heads) y) d child)
        (subst (λ (t : Term). IsBelow (term_of heads (winner_of wins (length heads) y) d) t) (unchanged (winner_of wins (length heads) (y / 2)) d parent) low)))

-- ---- all play, from the last node on

pub record IsPlayedFrom (node : ℕ) (heads : List Waiting) (wins : List ℕ) : Type 0 where
  pub within : IsWithin (length heads) wins
  pub below : (x : ℕ) → node ≤ x → x < length heads → IsOfBelow wins (length heads) x
  pub first : (y : ℕ) → node ≤ y / 2 → y < 2 * length heads → IsUpto heads wins y (y / 2)

pub from_start : (heads : List Waiting) (wins : List ℕ) → IsWithin (length heads) wins → IsPlayedFrom (length heads) heads wins
from_start heads wins w = record {
  within = w;
  below = λ x le lt. absurd (omega (arith, le, lt));
  first = λ y le lt. absurd (omega (arith, le, lt));
}

pub from_end : (heads : List Waiting) (wins : List ℕ) (node : ℕ) → node ≤ 1 → IsPlayedFrom node heads wins → IsPlayed heads wins
from_end heads wins node le h = record {
  within = h.within;
  below = λ x one lt. h.below x (omega arith) lt;
  first = λ y two lt. h.first y (omega arith) lt;
}

pub from_step : (heads : List Waiting) (old new : List ℕ) (node : ℕ) → 1 ≤ node → node < length heads → IsPlayedFrom (node + 1) heads old → Plays heads old node new → IsPlayedFrom node heads new
from_step heads old new node one lt h p = record {
  within = plays_within heads old new node p one lt h.within;
  below = λ x a b. below x a b (cases_lt node x);
  first = λ y a b. first y a b (cases_lt node (y / 2));
}
  where
    here : winner_of new (length heads) node ≡ p.winner
    here = this_node heads old new node p lt h.within.all

    same : (x : ℕ) → x ≢ node → winner_of new (length heads) x ≡ winner_of old (length heads) x
    same = other_node heads old new node p

    below_here : IsOfBelow new (length heads) node
    below_here = elim p.of [
      | inl e ↦ inl (here ∙ e ∙ sym (same (2 * node) (twice_not node one)))
      | inr e ↦ inr (here ∙ e ∙ sym (same (2 * node + 1) (twice_more_not node)))
    ]

    below : (x : ℕ) → node ≤ x → x < length heads → (node < x) ⊎ (x ≤ node) → IsOfBelow new (length heads) x
    below x a b (inl l) =
        let at : x ≢ node = λ e. absurd (omega (arith, e)) in
        let left : 2 * x ≢ node = λ e. absurd (omega (arith, e)) in
        let right : 2 * x + 1 ≢ node = λ e. absurd (omega (arith, e)) in
        elim (h.below x (omega arith) b) [
          | inl e ↦ inl (same x at ∙ e ∙ sym (same (2 * x) left))
          | inr e ↦ inr (same x at ∙ e ∙ sym (same (2 * x + 1) right))
        ]
    below x a b (inr g) = let e : node ≡ x = omega arith in subst (IsOfBelow new (length heads)) e below_here

    first_here : (y : ℕ) → y / 2 ≡ node → (y < 2 * node + 1) ⊎ (2 * node + 1 ≤ y) → IsUpto heads new y (y / 2)
    first_here y e (inl l) =
        let is : 2 * node ≡ y = omega (arith, e) in
        let not : y ≢ node = λ f. absurd (omega (arith, e, f, one)) in
        upto_by heads (winner_of old (length heads) (2 * node)) p.winner (winner_of new (length heads) y) (winner_of new (length heads) (y / 2)) (ap (winner_of old (length heads)) is ∙ sym (same y not)) (sym here ∙ ap (winner_of new (length heads)) (sym e)) p.left
    first_here y e (inr g) =
        let is : 2 * node + 1 ≡ y = omega (arith, e) in
        let not : y ≢ node = λ f. absurd (omega (arith, e, f, one)) in
        upto_by heads (winner_of old (length heads) (2 * node + 1)) p.winner (winner_of new (length heads) y) (winner_of new (length heads) (y / 2)) (ap (winner_of old (length heads)) is ∙ sym (same y not)) (sym here ∙ ap (winner_of new (length heads)) (sym e)) p.right

    first : (y : ℕ) → node ≤ y / 2 → y < 2 * length heads → (node < y / 2) ⊎ (y / 2 ≤ node) → IsUpto heads new y (y / 2)
    first y a b (inl l) =
        let at : y ≢ node = λ e. absurd (omega (arith, e)) in
        let top : y / 2 ≢ node = λ e. absurd (omega (arith, e)) in
        upto_by heads (winner_of old (length heads) y) (winner_of old (length heads) (y / 2)) (winner_of new (length heads) y) (winner_of new (length heads) (y / 2)) (sym (same y at)) (sym (same (y / 2) top)) (h.first y (omega arith) b)
    first y a b (inr g) = first_here y (omega arith) (cases_lt y (2 * node + 1))
