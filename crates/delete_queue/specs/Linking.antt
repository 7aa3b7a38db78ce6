-- What the functions inside the crate say of a seat on its way.
use Rattle.std.specs.Prelude.{◌≡◌, ℕ, ◌+◌, ◌-◌, ◌<◌, ◌≤◌, ◌==◌, ◌⊎◌, List, [], ◌∷◌, ◌++◌, length, slice_index, take, drop, MatchBool}
use Rattle.ix_base.specs.Words.{head_kind, IsEntryWords}
use Rattle.queue_rule.specs.Told.{SawOpen, Whole}
use Rattle.queue_rule.specs.declared.view.View.{View}
use Rattle.queue_rule.specs.Lists.{Starts, last_or}
use Rattle.queue_rule.specs.Chain.{start, filled, own}
use Rattle.queue_rule.specs.Views.{Knows as KnowsWord, draft_start, with_draft, links, sees, with_loaded, loaded}
use Rattle.delete_queue.specs.declared.queue.DeleteQueue.{DeleteQueue}
use Rattle.delete_queue.specs.declared.seat.Seat.{Seat}
use Rattle.delete_queue.specs.declared.seat.Progress.{Progress}
use Rattle.delete_queue.specs.Ties.{IsTold, IsLiveOf}
use Rattle.delete_queue.specs.Seats.{the_view, own_of, seen_of, IsSeat}

-- w has seen and knows all that v had seen and known; the number and the joined seats are the same
pub record Follows (v w : View) : Type 0 where
  pub seen : Starts w.seen v.seen
  pub known : (a x : ℕ) → KnowsWord v a x → KnowsWord w a x
  pub number : w.number ≡ v.number
  pub olds : w.olds ≡ v.olds

-- w is v but for its draft, its loads and the words that it knows, of which it has more
pub record Rereads (v w : View) : Type 0 where
  pub number : w.number ≡ v.number
  pub spares : w.spares ≡ v.spares
  pub olds : w.olds ≡ v.olds
  pub own : w.own ≡ v.own
  pub seen : w.seen ≡ v.seen
  pub known : (a x : ℕ) → KnowsWord v a x → KnowsWord w a x

-- the seat has just seen an entry that its fields don't show yet
pub record GoesOn (q : DeleteQueue) (s : Seat) (found : ℕ) : Type 0 where
  pub table : IsTold q s.inner
  pub base : s.base ≡ q.base
  pub spares : (the_view s).spares ≡ []
  pub number : s.progress.number ≡ (the_view s).number
  pub used : s.progress.used ≡ filled (the_view s).own
  pub count : s.progress.count + 1 ≡ length (the_view s).seen
  pub before : List ℕ
  pub ends : (the_view s).seen ≡ before ++ found ∷ []
  pub room : found + 1 < start (the_view s).seats
  pub kept_back : filled (the_view s).own ≤ 16640

-- the seat has just linked an entry that its fields don't show yet
pub record Came (q : DeleteQueue) (s : Seat) (draft_start : ℕ) (words : List ℕ) : Type 0 where
  pub table : IsTold q s.inner
  pub base : s.base ≡ q.base
  pub spares : (the_view s).spares ≡ []
  pub number : s.progress.number ≡ (the_view s).number
  pub used : s.progress.used + (length words + 1) ≡ filled (the_view s).own
  pub count : s.progress.count + 1 ≡ length (the_view s).seen
  pub last : last_or 0 (the_view s).seen ≡ draft_start
  pub some_word : 0 < length words
  pub head : KnowsWord (the_view s) (draft_start + 1) (slice_index words 0)
  pub kept_back : (filled (the_view s).own ≤ 16640) ⊎ (6 ≤ head_kind (slice_index words 0))

-- words that find room where so many are used; two are kept back for an entry that closes
pub record HasRoom (used : ℕ) (words : List ℕ) : Type 0 where
  pub fits : used + length words + 1 ≤ 16642
  pub kept_back : (used + length words + 1 ≤ 16640) ⊎ (6 ≤ head_kind (slice_index words 0))

-- the entry is the seat's last own one, and the last one seen, which the seat had not seen
pub record Puts (s t : Seat) (words : List ℕ) : Type 0 where
  pub own : own_of t ≡ own_of s ++ own (seen_of t) words ∷ []
  pub later : seen_of s < seen_of t
  pub head : t.progress.head ≡ slice_index words 0

-- the progress of a seat that goes on to what another has seen
abbrev pub gone_on : Progress → Progress → Progress
gone_on mine theirs = record { number = mine.number; used = mine.used; count = theirs.count; last = theirs.last; head = theirs.head }

-- the seat has taken another over, and the rule has not told yet what holds of its view
pub record IsTaken (q : DeleteQueue) (s : Seat) : Type 0 where
  pub table : IsLiveOf q s.inner
  pub base : s.base ≡ q.base
  pub spares : (the_view s).spares ≡ []
  pub shows : IsSeat s

-- a word was stored at this address, in place of what stood of the draft from there on
abbrev pub drafted : View → ℕ → ℕ → View
drafted v at word = with_draft v (take (at - draft_start v) v.draft ++ word ∷ [])

-- the next word of the draft goes to this address, inside the seat's own stretch
pub record DraftsAt (v : View) (at : ℕ) : Type 0 where
  pub low : draft_start v ≤ at
  pub next : at ≤ draft_start v + length v.draft
  pub high : at < start v.number + 16642

-- the draft is a next word 0 and the words of an entry, and the last entry seen doesn't close the queue
pub record MayLink (v : View) : Type 0 where
  pub last_open : SawOpen v
  pub draft : v.draft ≡ 0 ∷ drop 1 v.draft
  pub grammar : IsEntryWords (drop 1 v.draft)

-- the exchange found 0 and linked the draft, or it found an entry that was not seen
abbrev pub Exchanged : View → View → ℕ → Type 0
Exchanged v w found = MatchBool (found == 0) (w ≡ links v) ((w ≡ sees v found) × (found + 1 < start v.seats))

-- the load found 0 and the entries seen are all there are, or it found an entry that was not seen
abbrev pub Looked : View → View → ℕ → ℕ → Type 0
Looked v w last found = let u = with_loaded v (loaded last found (v.loaded.count + 1)) in
    MatchBool (found == 0) ((w ≡ u) × Whole w) ((w ≡ sees u found) × (found + 1 < start v.seats))
