-- Sources that play against one another in a tree.
use Rattle.std.specs.Prelude.{◌≡◌, ℕ, ◌+◌, ◌-◌, ◌*◌, ◌/◌, ◌<◌, ◌≤◌, ◌⊎◌, List, length, nat_lt, cond, slice_index, slice_index_or, slice_set}
use Rattle.ix_base.specs.declared.document.Term.{Term}
use Rattle.merge_postings.specs.Keys.{KeysTerm}
use Rattle.merge_postings.specs.Walk.{IsBelow, StartFrom, Waiting}
use Rattle.merge_postings.specs.declared.key.Key.{Key}

-- what contracts see of sources that wait: them, the place of the one that is taken first, and the field beside which
-- they have their keys
pub record Queued : Type 0 where
  pub waiting : List Waiting
  pub place : ℕ
  pub field : List ℕ

-- the place of the source at a node, where so many play
abbrev pub winner_of : List ℕ → ℕ → ℕ → ℕ
winner_of wins count node = cond (nat_lt node count) (slice_index wins node) (node - count)

-- each place is that of one of so many sources, and there is one for each
pub record IsWithin (count : ℕ) (wins : List ℕ) : Type 0 where
  pub all : length wins ≡ count
  pub each : (x : ℕ) → x < count → slice_index wins x < count

-- the next term of the source at a place, where there is one
abbrev pub term_of : List Waiting → ℕ → Waiting → Term
term_of heads place d = (slice_index_or heads place d).first.term

-- the source at node x isn't taken before the one at node y
abbrev pub IsUpto : List Waiting → List ℕ → ℕ → ℕ → Type 0
IsUpto heads wins x y = (d : Waiting)
    → IsBelow (term_of heads (winner_of wins (length heads) x) d) (term_of heads (winner_of wins (length heads) y) d) → ⊥

-- the source at the node is one of the two below it
abbrev pub IsOfBelow : List ℕ → ℕ → ℕ → Type 0
IsOfBelow wins count x =
    (winner_of wins count x ≡ winner_of wins count (2 * x)) ⊎ (winner_of wins count x ≡ winner_of wins count (2 * x + 1))

-- at each node above others stands the one of them that is taken first
pub record IsPlayed (heads : List Waiting) (wins : List ℕ) : Type 0 where
  pub within : IsWithin (length heads) wins
  pub below : (x : ℕ) → 1 ≤ x → x < length heads → IsOfBelow wins (length heads) x
  pub first : (y : ℕ) → 2 ≤ y → y < 2 * length heads → IsUpto heads wins y (y / 2)

-- the place is that of the one of the two sources that is taken first
pub record IsFirstOf (heads : List Waiting) (one other place : ℕ) : Type 0 where
  pub of : (place ≡ one) ⊎ (place ≡ other)
  pub one_upto : (d : Waiting) → IsBelow (term_of heads one d) (term_of heads place d) → ⊥
  pub other_upto : (d : Waiting) → IsBelow (term_of heads other d) (term_of heads place d) → ⊥

-- the two below the node have played
pub record Plays (heads : List Waiting) (old : List ℕ) (node : ℕ) (new : List ℕ) : Type 0 where
  pub winner : ℕ
  pub set : new ≡ slice_set old node winner
  pub of : (winner ≡ winner_of old (length heads) (2 * node)) ⊎ (winner ≡ winner_of old (length heads) (2 * node + 1))
  pub left : (d : Waiting) → IsBelow (term_of heads (winner_of old (length heads) (2 * node)) d) (term_of heads winner d) → ⊥
  pub right : (d : Waiting) → IsBelow (term_of heads (winner_of old (length heads) (2 * node + 1)) d) (term_of heads winner d) → ⊥

-- one of the two below the node stands there, and this one is the other of them
abbrev pub IsLoser : List ℕ → ℕ → ℕ → ℕ → Type 0
IsLoser wins count x loser =
    ((winner_of wins count x ≡ winner_of wins count (2 * x)) × (loser ≡ winner_of wins count (2 * x + 1)))
    ⊎ ((winner_of wins count x ≡ winner_of wins count (2 * x + 1)) × (loser ≡ winner_of wins count (2 * x)))

-- the two below the node have played, and the one that isn't taken first was put there
pub record PutsLoser (count : ℕ) (losers : List ℕ) (node : ℕ) (won lost : List ℕ) : Type 0 where
  pub loser : ℕ
  pub set : lost ≡ slice_set losers node loser
  pub is : IsLoser won count node loser

-- all have played: at each node above others the one stands that isn't taken first, and the place is that of the one
-- that is taken first of all
pub record HavePlayed (heads : List Waiting) (losers : List ℕ) (place : ℕ) : Type 0 where
  pub wins : List ℕ
  pub played : IsPlayed heads wins
  pub all : length losers ≡ length heads
  pub each : (x : ℕ) → 1 ≤ x → x < length heads → IsLoser wins (length heads) x (slice_index losers x)
  pub first : place ≡ winner_of wins (length heads) 1

-- all had played when the source at the place, which was taken first, was another one
pub record HadPlayed (heads : List Waiting) (losers : List ℕ) (place : ℕ) : Type 0 where
  pub old : List Waiting
  pub source : Waiting
  pub played : HavePlayed old losers place
  pub is : heads ≡ slice_set old place source

-- the source is taken first
pub record IsFirst (q : Queued) (w : Waiting) : Type 0 where
  pub within : q.place < length q.waiting
  pub is : (d : Waiting) → slice_index_or q.waiting q.place d ≡ w
  pub from : StartFrom w.first.term q.waiting

-- the keys are those of the sources' next terms, beside the field
pub record IsKeyed (field : List ℕ) (heads : List Waiting) (keys : List Key) : Type 0 where
  pub all : length keys ≡ length heads
  pub each : (i : ℕ) (d : Waiting) (k : Key) → i < length heads → KeysTerm field (slice_index_or keys i k) (term_of heads i d)

-- the place is that of one of the sources, and no next term of so many of them is below its own
pub record IsLeast (heads : List Waiting) (count place : ℕ) : Type 0 where
  pub within : place < length heads
  pub least : (i : ℕ) (d : Waiting) → i < count → IsBelow (term_of heads i d) (term_of heads place d) → ⊥
