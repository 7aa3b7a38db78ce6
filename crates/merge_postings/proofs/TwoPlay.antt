-- The two below a node play.
use Rattle.std.proofs.Common.{◌≡◌, ◌≢◌, ℕ, ◌+◌, ◌-◌, ◌*◌, ◌/◌, ◌<◌, ◌≤◌, List, length, get_or, cond, nat_lt, ◌⊎◌, inl, inr, refl, sym, ap, ◌∙◌, subst, arith}
use Rattle.std.specs.List.{slice_set}
use Rattle.std.proofs.lemmas.Bool.{cases_lt}
use Rattle.std.proofs.lemmas.List.{get_or-set_same, get_or-set_other, length-set}
use Rattle.merge_postings.specs.Tree.{IsFirstOf, IsWithin, Plays, term_of, winner_of}
use Rattle.merge_postings.specs.Walk.{IsBelow, Waiting}
use Rattle.merge_postings.proofs.Nodes.{at_inner, winner_within}

pub other_node : (heads : List Waiting) (old new : List ℕ) (node : ℕ) (p : Plays heads old node new) (x : ℕ) → x ≢ node → winner_of new (length heads) x ≡ winner_of old (length heads) x
other_node heads old new node p x not =
    ap (λ (v : ℕ). cond (nat_lt x (length heads)) v (x - length heads))
    (ap (λ (l : List ℕ). get_or l x 0) p.set ∙ get_or-set_other old node x p.winner 0 not)

pub this_node : (heads : List Waiting) (old new : List ℕ) (node : ℕ) (p : Plays heads old node new) → node < length heads → length old ≡ length heads → winner_of new (length heads) node ≡ p.winner
this_node heads old new node p lt same =
    at_inner new (length heads) node lt ∙ ap (λ (l : List ℕ). get_or l node 0) p.set ∙ get_or-set_same old node p.winner 0 (omega (arith, same))

-- a node at which a place was put, and another node
pub set_node : (wins : List ℕ) (n node r : ℕ) → node < n → length wins ≡ n → winner_of (slice_set wins node r) n node ≡ r
set_node wins n node r lt same = at_inner (slice_set wins node r) n node lt ∙ get_or-set_same wins node r 0 (omega (arith, same))

pub set_other : (wins : List ℕ) (n node r x : ℕ) → x ≢ node → winner_of (slice_set wins node r) n x ≡ winner_of wins n x
set_other wins n node r x not = ap (λ (v : ℕ). cond (nat_lt x n) v (x - n)) (get_or-set_other wins node x r 0 not)

pub plays_within : (heads : List Waiting) (old new : List ℕ) (node : ℕ) → Plays heads old node new → 1 ≤ node → node < length heads → IsWithin (length heads) old → IsWithin (length heads) new
plays_within heads old new node p one lt w = record {
  all = ap length p.set ∙ length-set old node p.winner ∙ w.all;
  each = λ x l. go x l (cases_lt x node) (cases_lt node x);
}
  where
    n : ℕ
    n = length heads

    low : p.winner < length heads
    low = elim p.of [
      | inl e ↦ subst (λ (k : ℕ). k < length heads) (sym e) (winner_within old (length heads) (2 * node) w (omega arith))
      | inr e ↦ subst (λ (k : ℕ). k < length heads) (sym e) (winner_within old (length heads) (2 * node + 1) w (omega arith))
    ]

    other : (x : ℕ) → x < length heads → x ≢ node → get_or new x 0 < length heads
    other x l not = subst (λ (k : ℕ). k < length heads) (sym (ap (λ (l : List ℕ). get_or l x 0) p.set ∙ get_or-set_other old node x p.winner 0 not)) (w.each x l)

    go : (x : ℕ) → x < length heads → (x < node) ⊎ (node ≤ x) → (node < x) ⊎ (x ≤ node) → get_or new x 0 < length heads
    go x l (inl a) b = other x l (λ e. absurd (omega (arith, e)))
    go x l (inr a) (inl b) = other x l (λ e. absurd (omega (arith, e)))
    go x l (inr a) (inr b) =
        let e : x ≡ node = omega arith in
        subst (λ (k : ℕ). k < length heads) (sym (ap (λ (k : ℕ). get_or new k 0) e ∙ ap (λ (l : List ℕ). get_or l node 0) p.set ∙ get_or-set_same old node p.winner 0 (omega (arith, w.all)))) low

pub twice_not : (node : ℕ) → 1 ≤ node → 2 * node ≢ node
twice_not node one e = absurd (omega (arith, e))

pub twice_more_not : (node : ℕ) → 2 * node + 1 ≢ node
twice_more_not node e = absurd (omega (arith, e))

pub upto_by : (heads : List Waiting) (i j k l : ℕ) → i ≡ k → j ≡ l → ((d : Waiting) → IsBelow (term_of heads i d) (term_of heads j d) → ⊥) → (d : Waiting) → IsBelow (term_of heads k d) (term_of heads l d) → ⊥
upto_by heads i j k l p q h d low =
    h d
    (subst (λ (m : ℕ). IsBelow (term_of heads m d) (term_of heads j d)) (sym p)
    (subst (λ (m : ℕ). IsBelow (term_of heads k d) (term_of heads m d)) (sym q) low))

-- the first of the two below a node stands there
pub first_plays : (heads : List Waiting) (old : List ℕ) (node i j r : ℕ) → i ≡ winner_of old (length heads) (2 * node) → j ≡ winner_of old (length heads) (2 * node + 1)
    → IsFirstOf heads i j r → Plays heads old node (slice_set old node r)
first_plays heads old node i j r left right first = record {
  winner = r;
  set = refl;
  of = elim first.of [ inl e ↦ inl (e ∙ left) | inr e ↦ inr (e ∙ right) ];
  left = λ d low. first.one_upto d (subst (λ (k : ℕ). IsBelow (term_of heads k d) (term_of heads r d)) (sym left) low);
  right = λ d low. first.other_upto d (subst (λ (k : ℕ). IsBelow (term_of heads k d) (term_of heads r d)) (sym right) low);
}

-- the same, where one of the two stands at the node x, and the other beside it
pub beside_plays : (heads : List Waiting) (old : List ℕ) (x y i j r : ℕ) → y + x ≡ 4 * (x / 2) + 1 → i ≡ winner_of old (length heads) x → j ≡ winner_of old (length heads) y
    → IsFirstOf heads i j r → Plays heads old (x / 2) (slice_set old (x / 2) r)
beside_plays heads old x y i j r sum at_x at_y first = go (cases_lt x y)
  where
    go : (x < y) ⊎ (y ≤ x) → Plays heads old (x / 2) (slice_set old (x / 2) r)
    go (inl l) =
        let a : x ≡ 2 * (x / 2) = omega (arith, sum) in
        let b : y ≡ 2 * (x / 2) + 1 = omega (arith, sum) in
        first_plays heads old (x / 2) i j r (at_x ∙ ap (winner_of old (length heads)) a) (at_y ∙ ap (winner_of old (length heads)) b) first
    go (inr g) =
        let a : y ≡ 2 * (x / 2) = omega (arith, sum) in
        let b : x ≡ 2 * (x / 2) + 1 = omega (arith, sum) in
        let other : IsFirstOf heads j i r = record { of = elim first.of [ inl e ↦ inr e | inr e ↦ inl e ]; one_upto = first.other_upto; other_upto = first.one_upto } in
        first_plays heads old (x / 2) j i r (at_y ∙ ap (winner_of old (length heads)) a) (at_x ∙ ap (winner_of old (length heads)) b) other
