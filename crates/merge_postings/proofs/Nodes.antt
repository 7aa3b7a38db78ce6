-- The nodes of a tree in which sources play, and the place that stands at each.
use Rattle.std.proofs.Common.{◌≡◌, ℕ, zero, suc, ◌+◌, ◌-◌, ◌*◌, ◌/◌, ◌<◌, ◌≤◌, List, get_or, Bool, true, false, cond, nat_lt, ◌⊎◌, inl, inr, refl, sym, ap, ◌∙◌, subst, arith}
use Rattle.std.proofs.lemmas.Bool.{cases_lt, lt-ltb, ltb-true}
use Rattle.merge_postings.specs.Tree.{IsOfBelow, IsWithin, winner_of}

-- ---- the source at a node

pub at_inner : (wins : List ℕ) (n x : ℕ) → x < n → winner_of wins n x ≡ get_or wins x 0
at_inner wins n x lt = ap (λ (b : Bool). cond b (get_or wins x 0) (x - n)) (lt-ltb x n lt)

pub at_leaf : (wins : List ℕ) (n x : ℕ) → n ≤ x → winner_of wins n x ≡ x - n
at_leaf wins n x le = go (nat_lt x n) refl
  where
    go : (b : Bool) → nat_lt x n ≡ b → winner_of wins n x ≡ x - n
    go true e = absurd (omega (arith, ltb-true x n e))
    go false e = ap (λ (b : Bool). cond b (get_or wins x 0) (x - n)) e

pub winner_within : (wins : List ℕ) (n x : ℕ) → IsWithin n wins → x < 2 * n → winner_of wins n x < n
winner_within wins n x w lt = go (cases_lt x n)
  where
    go : (x < n) ⊎ (n ≤ x) → winner_of wins n x < n
    go (inl l) = subst (λ (k : ℕ). k < n) (sym (at_inner wins n x l)) (w.each x l)
    go (inr g) = subst (λ (k : ℕ). k < n) (sym (at_leaf wins n x g)) (omega arith)

-- ---- nodes above a node

pub up : ℕ → ℕ → ℕ
up zero x = x
up (suc k) x = up k x / 2

-- the node is this one, or stands above it
abbrev pub IsAbove : ℕ → ℕ → Type 0
IsAbove x y = (k : ℕ) × (up k x ≡ y)

half_up : (k x : ℕ) → up k (x / 2) ≡ up k x / 2
unfolding up
half_up zero x = refl
half_up (suc k) x = ap (λ (y : ℕ). y / 2) (half_up k x)

-- a node is above itself
pub start : (x y : ℕ) → x ≡ y → IsAbove x y
unfolding up
start x y e = (0, e)

pub above_half : (x y : ℕ) → IsAbove (x / 2) y → IsAbove x y
unfolding up
above_half x y h = (suc h.0, sym (half_up h.0 x) ∙ h.1)

pub above_split : (x y : ℕ) → IsAbove x y → (x ≡ y) ⊎ IsAbove (x / 2) y
unfolding up
above_split x y (zero, e) = inl e
above_split x y (suc k, e) = inr (k, half_up k x ∙ e)

pub above_parent : (x y : ℕ) → IsAbove x y → IsAbove x (y / 2)
unfolding up
above_parent x y h = (suc h.0, ap (λ (z : ℕ). z / 2) h.1)

pub above_none : (y : ℕ) → IsAbove 0 y → y ≡ 0
unfolding up
above_none y h = sym h.1 ∙ go h.0
  where
    go : (k : ℕ) → up k 0 ≡ 0
    go zero = refl
    go (suc k) = let e : up k 0 ≡ 0 = go k in omega (arith, e)

-- a node isn't above one of a lower number
pub above_upto : (x y : ℕ) → IsAbove x y → y ≤ x
unfolding up
above_upto x y h = subst (λ (z : ℕ). z ≤ x) h.1 (go h.0)
  where
    go : (k : ℕ) → up k x ≤ x
    go zero = omega arith
    go (suc k) = let most : up k x ≤ x = go k in omega arith

-- of two nodes above a node one is above the other
above_both : (k j x y z : ℕ) → up k x ≡ y → up j x ≡ z → IsAbove y z ⊎ IsAbove z y
unfolding up
above_both zero j x y z e f = inl (j, ap (up j) (sym e) ∙ f)
above_both (suc k) zero x y z e f = inr (suc k, ap (up (suc k)) (sym f) ∙ e)
above_both (suc k) (suc j) x y z e f = above_both k j (x / 2) y z (half_up k x ∙ e) (half_up j x ∙ f)

-- the first of two nodes is the one that stands beside the second: both are below the same one
abbrev pub IsBeside : ℕ → ℕ → Type 0
IsBeside x y = x + y ≡ 4 * (y / 2) + 1

pub not_above_beside : (y z : ℕ) → 2 ≤ y → IsBeside z y → IsAbove y z → ⊥
not_above_beside y z two sum a = elim (above_split y z a) [
  | inl e ↦ absurd (omega (arith, e, sum))
  | inr m ↦ absurd (omega (arith, above_upto (y / 2) z m, sum, two))
]

-- of two nodes beside one another only one is above a node
pub beside_apart : (x y z : ℕ) → 2 ≤ y → IsBeside z y → IsAbove x y → IsAbove x z → ⊥
beside_apart x y z two sum one other = elim (above_both one.0 other.0 x y z one.1 other.1) [
  | inl a ↦ not_above_beside y z two sum a
  | inr a ↦ not_above_beside z y (omega (arith, sum, two)) (omega (arith, sum)) a
]

-- a place stands only above the source at it
pub winner_place : (wins : List ℕ) (n place : ℕ) → ((x : ℕ) → 1 ≤ x → x < n → IsOfBelow wins n x) → (more z : ℕ) → 1 ≤ z → z < 2 * n → 2 * n ≤ z + more → winner_of wins n z ≡ place
    → (z ≡ n + place) ⊎ IsAbove ((n + place) / 2) z
winner_place wins n place below zero z one lt most e = absurd (omega arith)
winner_place wins n place below (suc more) z one lt most e = go (λ c. winner_place wins n place below more c) (cases_lt z n)
  where
    inner : (c : ℕ) → c / 2 ≡ z → (c ≡ n + place) ⊎ IsAbove ((n + place) / 2) c → (z ≡ n + place) ⊎ IsAbove ((n + place) / 2) z
    inner c half (inl q) = inr (start ((n + place) / 2) z (ap (λ (k : ℕ). k / 2) (sym q) ∙ half))
    inner c half (inr a) = inr (subst (IsAbove ((n + place) / 2)) half (above_parent ((n + place) / 2) c a))

    go : ((c : ℕ) → 1 ≤ c → c < 2 * n → 2 * n ≤ c + more → winner_of wins n c ≡ place → (c ≡ n + place) ⊎ IsAbove ((n + place) / 2) c)
        → (z < n) ⊎ (n ≤ z) → (z ≡ n + place) ⊎ IsAbove ((n + place) / 2) z
    go again (inl l) = elim (below z one l) [
      | inl f ↦ inner (2 * z) (omega arith) (again (2 * z) (omega arith) (omega arith) (omega arith) (sym f ∙ e))
      | inr f ↦ inner (2 * z + 1) (omega arith) (again (2 * z + 1) (omega arith) (omega arith) (omega arith) (sym f ∙ e))
    ]
    go again (inr g) = inl (omega (arith, sym (at_leaf wins n z g) ∙ e))

-- the place that stands at the root stands at each node above the source at it
pub winner_on_way : (wins : List ℕ) (n place : ℕ) → ((x : ℕ) → 1 ≤ x → x < n → IsOfBelow wins n x) → place < n → winner_of wins n 1 ≡ place
    → (more y : ℕ) → 1 ≤ y → y ≤ more → IsAbove (n + place) y → winner_of wins n y ≡ place
winner_on_way wins n place below lt root zero y one most above = absurd (omega arith)
winner_on_way wins n place below lt root (suc more) y one most above = go (λ z. winner_on_way wins n place below lt root more z) (cases_lt y 2)
  where
    upto : y ≤ n + place
    upto = above_upto (n + place) y above

    beside_not : (b : ℕ) → 2 ≤ y → IsBeside b y → winner_of wins n b ≡ place → ⊥
    beside_not b two sum e = elim (winner_place wins n place below (2 * n) b (omega (arith, sum, two)) (omega (arith, sum, upto, lt)) (omega arith) e) [
      | inl q ↦ beside_apart (n + place) y b two sum above (start (n + place) b (sym q))
      | inr a ↦ beside_apart (n + place) y b two sum above (above_half (n + place) b a)
    ]

    of : (c : ℕ) → 2 ≤ y → c / 2 ≡ y / 2 → winner_of wins n c ≡ place → (c < y) ⊎ (y ≤ c) → (y < c) ⊎ (c ≤ y) → winner_of wins n y ≡ place
    of c two half e (inl l) b = absurd (beside_not c two (omega (arith, half, l)) e)
    of c two half e (inr a) (inl l) = absurd (beside_not c two (omega (arith, half, l)) e)
    of c two half e (inr a) (inr b) = let same : y ≡ c = omega arith in ap (winner_of wins n) same ∙ e

    go : ((z : ℕ) → 1 ≤ z → z ≤ more → IsAbove (n + place) z → winner_of wins n z ≡ place) → (y < 2) ⊎ (2 ≤ y) → winner_of wins n y ≡ place
    go again (inl l) = let first : y ≡ 1 = omega arith in ap (winner_of wins n) first ∙ root
    go again (inr two) =
        let parent : winner_of wins n (y / 2) ≡ place = again (y / 2) (omega arith) (omega arith) (above_parent (n + place) y above) in
        elim (below (y / 2) (omega arith) (omega (arith, upto, lt))) [
          | inl e ↦ of (2 * (y / 2)) two (omega arith) (sym e ∙ parent) (cases_lt (2 * (y / 2)) y) (cases_lt y (2 * (y / 2)))
          | inr e ↦ of (2 * (y / 2) + 1) two (omega arith) (sym e ∙ parent) (cases_lt (2 * (y / 2) + 1) y) (cases_lt y (2 * (y / 2) + 1))
        ]
