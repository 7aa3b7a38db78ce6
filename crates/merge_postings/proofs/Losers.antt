-- The sources that lost in a tree in which sources play.
use Rattle.std.proofs.Common.{◌≡◌, ◌≢◌, ℕ, ◌+◌, ◌-◌, ◌*◌, ◌/◌, ◌<◌, ◌≤◌, List, length, get_or, ◌⊎◌, inl, inr, refl, sym, ap, ◌∙◌, subst, arith}
use Rattle.std.specs.List.{slice_set}
use Rattle.std.proofs.lemmas.Bool.{cases_lt}
use Rattle.std.proofs.lemmas.List.{get_or-set_same, get_or-set_other, length-set, set-get_or}
use Rattle.merge_postings.specs.Tree.{IsFirstOf, IsOfBelow, Plays, winner_of, HavePlayed, HadPlayed, IsLoser, PutsLoser}
use Rattle.merge_postings.specs.Walk.{Waiting}
use Rattle.merge_postings.proofs.Nodes.{at_leaf, winner_within, IsAbove, start, above_half, above_split, above_parent, above_upto, IsBeside, not_above_beside, winner_on_way}
use Rattle.merge_postings.proofs.TwoPlay.{other_node, set_node, set_other, twice_not, twice_more_not, beside_plays}
use Rattle.merge_postings.proofs.Playing.{IsPlayedBut, played_end, play_step, played_start, IsPlayedFrom, from_end}

-- ---- the one that lost at a node

-- it is the one beside the one that won
pub loser_beside : (wins : List ℕ) (n y b loser : ℕ) → IsBeside b y → IsLoser wins n (y / 2) loser → winner_of wins n (y / 2) ≡ winner_of wins n y → loser ≡ winner_of wins n b
loser_beside wins n y b loser sum is won = go (cases_lt y b)
  where
    go : (y < b) ⊎ (b ≤ y) → loser ≡ winner_of wins n b
    go (inl l) =
        let left : 2 * (y / 2) ≡ y = omega (arith, sum, l) in
        let right : 2 * (y / 2) + 1 ≡ b = omega (arith, sum, l) in
        elim is [
          | inl p ↦ p.1 ∙ ap (winner_of wins n) right
          | inr p ↦ p.1 ∙ ap (winner_of wins n) left ∙ sym won ∙ p.0 ∙ ap (winner_of wins n) right
        ]
    go (inr g) =
        let left : 2 * (y / 2) ≡ b = omega (arith, sum, g) in
        let right : 2 * (y / 2) + 1 ≡ y = omega (arith, sum, g) in
        elim is [
          | inl p ↦ p.1 ∙ ap (winner_of wins n) right ∙ sym won ∙ p.0 ∙ ap (winner_of wins n) left
          | inr p ↦ p.1 ∙ ap (winner_of wins n) left
        ]

-- where one of the two below a node stands at x, and the other beside it
pub is_loser : (wins : List ℕ) (n x b loser : ℕ) → IsBeside b x
    → ((winner_of wins n (x / 2) ≡ winner_of wins n x) × (loser ≡ winner_of wins n b)) ⊎ ((winner_of wins n (x / 2) ≡ winner_of wins n b) × (loser ≡ winner_of wins n x))
    → IsLoser wins n (x / 2) loser
is_loser wins n x b loser sum is = go (cases_lt x b)
  where
    go : (x < b) ⊎ (b ≤ x) → IsLoser wins n (x / 2) loser
    go (inl l) =
        let left : x ≡ 2 * (x / 2) = omega (arith, sum, l) in
        let right : b ≡ 2 * (x / 2) + 1 = omega (arith, sum, l) in
        elim is [
          | inl p ↦ inl (p.0 ∙ ap (winner_of wins n) left, p.1 ∙ ap (winner_of wins n) right)
          | inr p ↦ inr (p.0 ∙ ap (winner_of wins n) right, p.1 ∙ ap (winner_of wins n) left)
        ]
    go (inr g) =
        let left : b ≡ 2 * (x / 2) = omega (arith, sum, g) in
        let right : x ≡ 2 * (x / 2) + 1 = omega (arith, sum, g) in
        elim is [
          | inl p ↦ inr (p.0 ∙ ap (winner_of wins n) right, p.1 ∙ ap (winner_of wins n) left)
          | inr p ↦ inl (p.0 ∙ ap (winner_of wins n) left, p.1 ∙ ap (winner_of wins n) right)
        ]

-- where another place was put elsewhere
loser_kept : (old new : List ℕ) (n x loser now : ℕ) → winner_of new n x ≡ winner_of old n x → winner_of new n (2 * x) ≡ winner_of old n (2 * x) → winner_of new n (2 * x + 1) ≡ winner_of old n (2 * x + 1)
    → now ≡ loser → IsLoser old n x loser → IsLoser new n x now
loser_kept old new n x loser now at left right same is = elim is [
  | inl p ↦ inl (at ∙ p.0 ∙ sym left, same ∙ p.1 ∙ sym right)
  | inr p ↦ inr (at ∙ p.0 ∙ sym right, same ∙ p.1 ∙ sym left)
]

-- ---- all play, from the last node on

-- the two below a node have played, which were i and j
pub puts_loser : (old losers : List ℕ) (n node i j r loser : ℕ) → 1 ≤ node → node < n → length old ≡ n → i ≡ winner_of old n (2 * node) → j ≡ winner_of old n (2 * node + 1) → (r ≡ i) ⊎ (r ≡ j)
    → ((r ≡ i) × (loser ≡ j)) ⊎ ((r ≢ i) × (loser ≡ i)) → PutsLoser n losers node (slice_set old node r) (slice_set losers node loser)
puts_loser old losers n node i j r loser one lt same left right of is = record { loser = loser; set = refl; is = loses is }
  where
    here : winner_of (slice_set old node r) n node ≡ r
    here = set_node old n node r lt same

    left_is : i ≡ winner_of (slice_set old node r) n (2 * node)
    left_is = left ∙ sym (set_other old n node r (2 * node) (twice_not node one))

    right_is : j ≡ winner_of (slice_set old node r) n (2 * node + 1)
    right_is = right ∙ sym (set_other old n node r (2 * node + 1) (twice_more_not node))

    loses : ((r ≡ i) × (loser ≡ j)) ⊎ ((r ≢ i) × (loser ≡ i)) → IsLoser (slice_set old node r) n node loser
    loses (inl p) = inl (here ∙ p.0 ∙ left_is, p.1 ∙ right_is)
    loses (inr p) = elim of [ inl e ↦ absurd (p.0 e) | inr e ↦ inr (here ∙ e ∙ right_is, p.1 ∙ left_is) ]

-- at the nodes from this one on those stand that lost
pub record HaveLostFrom (node n : ℕ) (wins losers : List ℕ) : Type 0 where
  pub all : length losers ≡ n
  pub each : (x : ℕ) → node ≤ x → x < n → IsLoser wins n x (get_or losers x 0)

pub lost_start : (n : ℕ) (wins losers : List ℕ) → length losers ≡ n → HaveLostFrom n n wins losers
lost_start n wins losers all = record { all = all; each = λ x le lt. absurd (omega (arith, le, lt)) }

pub lost_step : (heads : List Waiting) (old new losers lost : List ℕ) (node : ℕ) → 1 ≤ node → node < length heads → HaveLostFrom (node + 1) (length heads) old losers → Plays heads old node new
    → PutsLoser (length heads) losers node new lost → HaveLostFrom node (length heads) new lost
lost_step heads old new losers lost node one lt h p puts = record {
  all = ap length puts.set ∙ length-set losers node puts.loser ∙ h.all;
  each = λ x a b. each x a b (cases_lt node x);
}
  where
    same : (x : ℕ) → x ≢ node → winner_of new (length heads) x ≡ winner_of old (length heads) x
    same = other_node heads old new node p

    here : get_or lost node 0 ≡ puts.loser
    here = ap (λ (l : List ℕ). get_or l node 0) puts.set ∙ get_or-set_same losers node puts.loser 0 (omega (arith, h.all, lt))

    each : (x : ℕ) → node ≤ x → x < length heads → (node < x) ⊎ (x ≤ node) → IsLoser new (length heads) x (get_or lost x 0)
    each x a b (inl l) =
        let at : x ≢ node = λ e. absurd (omega (arith, e)) in
        let left : 2 * x ≢ node = λ e. absurd (omega (arith, e)) in
        let right : 2 * x + 1 ≢ node = λ e. absurd (omega (arith, e)) in
        loser_kept old new (length heads) x (get_or losers x 0) (get_or lost x 0) (same x at) (same (2 * x) left) (same (2 * x + 1) right)
        (ap (λ (l : List ℕ). get_or l x 0) puts.set ∙ get_or-set_other losers node x puts.loser 0 at) (h.each x (omega arith) b)
    each x a b (inr g) =
        let e : node ≡ x = omega arith in
        subst (λ (k : ℕ). IsLoser new (length heads) k (get_or lost k 0)) e
        (subst (λ (k : ℕ). IsLoser new (length heads) node k) (sym here) puts.is)

pub lost_end : (heads : List Waiting) (wins losers : List ℕ) (node place : ℕ) → node ≤ 1 → IsPlayedFrom node heads wins → HaveLostFrom node (length heads) wins losers → place ≡ winner_of wins (length heads) 1
    → HavePlayed heads losers place
lost_end heads wins losers node place le played lost first = record {
  wins = wins;
  played = from_end heads wins node le played;
  all = lost.all;
  each = λ x one lt. lost.each x (omega arith) lt;
  first = first;
}

-- ---- a source that isn't as it was plays, on the way up

-- The source of this place stands at the node. All but those above the node have played, and the ones that lost there
-- are those beside the way up.
pub record PlaysUp (heads : List Waiting) (losers : List ℕ) (node first : ℕ) : Type 0 where
  pub wins : List ℕ
  pub some : 1 ≤ node
  pub below : node < 2 * length heads
  pub stands : first ≡ winner_of wins (length heads) node
  pub played : IsPlayedBut (node / 2) heads wins
  pub all : length losers ≡ length heads
  pub off : (x : ℕ) → 1 ≤ x → x < length heads → (IsAbove (node / 2) x → ⊥) → IsLoser wins (length heads) x (get_or losers x 0)
  pub on : (y b : ℕ) → 2 ≤ y → IsAbove node y → IsBeside b y → get_or losers (y / 2) 0 ≡ winner_of wins (length heads) b

pub up_start : (heads : List Waiting) (losers : List ℕ) (place : ℕ) → place < length heads → HadPlayed heads losers place → PlaysUp heads losers (length heads + place) place
up_start heads losers place lt had = record {
  wins = wins;
  some = omega arith;
  below = omega arith;
  stands = sym (at_leaf wins (length heads) (length heads + place) (omega arith) ∙ omega arith);
  played = played_start had.old heads wins place had.source had.played.played had.is lt;
  all = had.played.all ∙ sym same;
  off = λ x one in' not. each x one in';
  on = λ y b two above sum. on y b two above sum (above_upto (length heads + place) y above);
}
  where
    wins : List ℕ
    wins = had.played.wins

    same : length heads ≡ length had.old
    same = ap length had.is ∙ length-set had.old place had.source

    each : (x : ℕ) → 1 ≤ x → x < length heads → IsLoser wins (length heads) x (get_or losers x 0)
    each x one in' = subst (λ (n : ℕ). IsLoser wins n x (get_or losers x 0)) (sym same) (had.played.each x one (omega (arith, in', same)))

    of : (x : ℕ) → 1 ≤ x → x < length heads → IsOfBelow wins (length heads) x
    of x one in' = subst (λ (n : ℕ). IsOfBelow wins n x) (sym same) (had.played.played.below x one (omega (arith, in', same)))

    root : winner_of wins (length heads) 1 ≡ place
    root = subst (λ (n : ℕ). winner_of wins n 1 ≡ place) (sym same) (sym had.played.first)

    way : (y : ℕ) → 1 ≤ y → IsAbove (length heads + place) y → winner_of wins (length heads) y ≡ place
    way y one above = winner_on_way wins (length heads) place of lt root y y one (omega arith) above

    on : (y b : ℕ) → 2 ≤ y → IsAbove (length heads + place) y → IsBeside b y → y ≤ length heads + place → get_or losers (y / 2) 0 ≡ winner_of wins (length heads) b
    on y b two above sum upto =
        loser_beside wins (length heads) y b (get_or losers (y / 2) 0) sum (each (y / 2) (omega arith) (omega arith))
        (way (y / 2) (omega arith) (above_parent (length heads + place) y above) ∙ sym (way y (omega arith) above))

-- the places are those of sources
pub up_place : (heads : List Waiting) (losers : List ℕ) (node first : ℕ) → PlaysUp heads losers node first → first < length heads
up_place heads losers node first h = subst (λ (k : ℕ). k < length heads) (sym h.stands) (winner_within h.wins (length heads) node h.played.within h.below)

pub up_other : (heads : List Waiting) (losers : List ℕ) (node above first other : ℕ) → above ≡ node / 2 → 1 ≤ above → PlaysUp heads losers node first → other ≡ get_or losers above 0 → other < length heads
up_other heads losers node above first other half some h is =
    let beside : ℕ = 4 * (node / 2) + 1 - node in
    let two : 2 ≤ node = omega (arith, half, some) in
    subst (λ (k : ℕ). k < length heads) (sym (is ∙ ap (λ (k : ℕ). get_or losers k 0) half ∙ h.on node beside two (start node node refl) (omega arith)))
    (winner_within h.wins (length heads) beside h.played.within (omega (arith, h.below)))

-- the source at the node plays against the one that had lost above it
up_step : (heads : List Waiting) (losers : List ℕ) (node beside first other taken loser : ℕ) → 2 ≤ node → IsBeside beside node → PlaysUp heads losers node first → other ≡ get_or losers (node / 2) 0 → IsFirstOf heads first other taken
    → ((taken ≡ first) × (loser ≡ other)) ⊎ ((taken ≡ other) × (loser ≡ first)) → PlaysUp heads (slice_set losers (node / 2) loser) (node / 2) taken
up_step heads losers node beside first other taken loser two sum h is firsts loses = record {
  wins = won;
  some = omega arith;
  below = omega (arith, h.below);
  stands = sym here;
  played = play_step heads h.wins won (node / 2) (omega arith) low h.played plays;
  all = length-set losers (node / 2) loser ∙ h.all;
  off = λ x a b not. off x a b not (cases_lt x (node / 2)) (cases_lt (node / 2) x);
  on = λ y b two' above sum'. on y b two' above sum' (above_upto (node / 2) y above);
}
  where
    low : node / 2 < length heads
    low = omega (arith, h.below)

    won : List ℕ
    won = slice_set h.wins (node / 2) taken

    other_is : other ≡ winner_of h.wins (length heads) beside
    other_is = is ∙ h.on node beside two (start node node refl) sum

    plays : Plays heads h.wins (node / 2) won
    plays = beside_plays heads h.wins node beside first other taken sum h.stands other_is firsts

    here : winner_of won (length heads) (node / 2) ≡ taken
    here = set_node h.wins (length heads) (node / 2) taken low h.played.within.all

    same : (x : ℕ) → x ≢ node / 2 → winner_of won (length heads) x ≡ winner_of h.wins (length heads) x
    same x not = set_other h.wins (length heads) (node / 2) taken x not

    at_node : winner_of won (length heads) node ≡ first
    at_node = same node (λ e. absurd (omega (arith, e, two))) ∙ sym h.stands

    at_beside : winner_of won (length heads) beside ≡ other
    at_beside = same beside (λ e. absurd (omega (arith, e, two, sum))) ∙ sym other_is

    off_here : IsLoser won (length heads) (node / 2) (get_or (slice_set losers (node / 2) loser) (node / 2) 0)
    off_here =
        subst (IsLoser won (length heads) (node / 2)) (sym (get_or-set_same losers (node / 2) loser 0 (omega (arith, low, h.all))))
        (is_loser won (length heads) node beside loser sum (elim loses [
          | inl p ↦ inl (here ∙ p.0 ∙ sym at_node, p.1 ∙ sym at_beside)
          | inr p ↦ inr (here ∙ p.0 ∙ sym at_beside, p.1 ∙ sym at_node)
        ]))

    off_other : (x : ℕ) → 1 ≤ x → x < length heads → (IsAbove (node / 2 / 2) x → ⊥) → x ≢ node / 2 → IsLoser won (length heads) x (get_or (slice_set losers (node / 2) loser) x 0)
    off_other x a b not apart =
        let left : 2 * x ≢ node / 2 = λ e. absurd (not (start (node / 2 / 2) x (omega (arith, e)))) in
        let right : 2 * x + 1 ≢ node / 2 = λ e. absurd (not (start (node / 2 / 2) x (omega (arith, e)))) in
        loser_kept h.wins won (length heads) x (get_or losers x 0) (get_or (slice_set losers (node / 2) loser) x 0) (same x apart) (same (2 * x) left) (same (2 * x + 1) right)
        (get_or-set_other losers (node / 2) x loser 0 apart)
        (h.off x a b (λ above. elim (above_split (node / 2) x above) [ inl e ↦ absurd (apart (sym e)) | inr m ↦ not m ]))

    off : (x : ℕ) → 1 ≤ x → x < length heads → (IsAbove (node / 2 / 2) x → ⊥) → (x < node / 2) ⊎ (node / 2 ≤ x) → (node / 2 < x) ⊎ (x ≤ node / 2) → IsLoser won (length heads) x (get_or (slice_set losers (node / 2) loser) x 0)
    off x a b not (inl l) c = off_other x a b not (λ e. absurd (omega (arith, e)))
    off x a b not (inr g) (inl l) = off_other x a b not (λ e. absurd (omega (arith, e)))
    off x a b not (inr g) (inr k) =
        let e : node / 2 ≡ x = omega arith in
        subst (λ (z : ℕ). IsLoser won (length heads) z (get_or (slice_set losers (node / 2) loser) z 0)) e off_here

    on : (y b : ℕ) → 2 ≤ y → IsAbove (node / 2) y → IsBeside b y → y ≤ node / 2 → get_or (slice_set losers (node / 2) loser) (y / 2) 0 ≡ winner_of won (length heads) b
    on y b two' above sum' upto =
        let apart : b ≢ node / 2 = λ e. not_above_beside b y (omega (arith, sum', two')) (omega (arith, sum')) (subst (λ (z : ℕ). IsAbove z y) (sym e) above) in
        get_or-set_other losers (node / 2) (y / 2) loser 0 (λ e. absurd (omega (arith, e, two', upto)))
        ∙ h.on y b two' (above_half node y above) sum' ∙ sym (same b apart)

-- where it is the same one that lost, nothing is put
up_same : (heads : List Waiting) (losers : List ℕ) (node first other taken : ℕ) → 2 ≤ node → PlaysUp heads losers node first → other ≡ get_or losers (node / 2) 0 → IsFirstOf heads first other taken
    → taken ≡ first → PlaysUp heads losers (node / 2) first
up_same heads losers node first other taken two h is firsts same =
    subst (λ (l : List ℕ). PlaysUp heads l (node / 2) first) (ap (slice_set losers (node / 2)) is ∙ set-get_or losers (node / 2) 0)
    (subst (PlaysUp heads (slice_set losers (node / 2) other) (node / 2)) same
    (up_step heads losers node (4 * (node / 2) + 1 - node) first other taken other two (omega arith) h is firsts (inl (same, refl))))

pub up_turn : (heads : List Waiting) (losers new : List ℕ) (node above first other taken after : ℕ) → above ≡ node / 2 → 1 ≤ above → PlaysUp heads losers node first → other ≡ get_or losers above 0
    → IsFirstOf heads first other taken → ((taken ≢ first) × (new ≡ slice_set losers above first) × (after ≡ taken)) ⊎ ((taken ≡ first) × (new ≡ losers) × (after ≡ first)) → PlaysUp heads new above after
up_turn heads losers new node above first other taken after half some h at firsts (inl p) =
    let is : other ≡ get_or losers (node / 2) 0 = at ∙ ap (λ (k : ℕ). get_or losers k 0) half in
    let wins : taken ≡ other = elim firsts.of [ inl e ↦ absurd (p.0 e) | inr e ↦ e ] in
    subst (PlaysUp heads new above) (sym p.2)
    (subst (λ (l : List ℕ). PlaysUp heads l above taken) (sym p.1)
    (subst (λ (k : ℕ). PlaysUp heads (slice_set losers k first) k taken) (sym half)
    (up_step heads losers node (4 * (node / 2) + 1 - node) first other taken first (omega (arith, half, some)) (omega arith) h is firsts (inr (wins, refl)))))
up_turn heads losers new node above first other taken after half some h at firsts (inr p) =
    let is : other ≡ get_or losers (node / 2) 0 = at ∙ ap (λ (k : ℕ). get_or losers k 0) half in
    subst (PlaysUp heads new above) (sym p.2)
    (subst (λ (l : List ℕ). PlaysUp heads l above first) (sym p.1)
    (subst (λ (k : ℕ). PlaysUp heads losers k first) (sym half)
    (up_same heads losers node first other taken (omega (arith, half, some)) h is firsts p.0)))

pub up_end : (heads : List Waiting) (losers : List ℕ) (node first : ℕ) → node / 2 ≡ 0 → PlaysUp heads losers node first → HavePlayed heads losers first
up_end heads losers node first none h = record {
  wins = h.wins;
  played = played_end heads h.wins (subst (λ (k : ℕ). IsPlayedBut k heads h.wins) none h.played);
  all = h.all;
  each = λ x one lt. h.off x one lt (λ above. absurd (omega (arith, one, above_upto (node / 2) x above, none)));
  first = let root : node ≡ 1 = omega (arith, none, h.some) in h.stands ∙ ap (winner_of h.wins (length heads)) root;
}
