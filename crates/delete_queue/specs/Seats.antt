-- What contracts say of a queue and its seats. The layers above cite these words and don't look
-- into them: none names an address of the table.
use Rattle.std.specs.Prelude.{◌≡◌, ℕ, ◌+◌, ◌-◌, ◌<◌, ◌≤◌, ◌==◌, ◌⊎◌, if◌then◌else◌, List, [], ◌∷◌, ◌++◌, map, length, slice_index}
use mathlib.Core.Option.{some}
use lib.ListN.{get_elem?}
use Rattle.ix_base.specs.Words.{head_kind, word_count}
use Rattle.queue_rule.specs.declared.view.View.{View}
use Rattle.queue_rule.specs.declared.view.Own.{Own}
use Rattle.queue_rule.specs.declared.view.Old.{Old}
use Rattle.queue_rule.specs.Lists.{Starts, last_or}
use Rattle.queue_rule.specs.Chain.{filled, own}
use Rattle.queue_rule.specs.Views.{Knows as KnowsWord}
use Rattle.delete_queue.specs.declared.queue.DeleteQueue.{DeleteQueue}
use Rattle.delete_queue.specs.declared.seat.Seat.{Seat}
use Rattle.delete_queue.specs.declared.seat.Progress.{Progress}
use Rattle.delete_queue.specs.declared.seat.Place.{Place}
use Rattle.delete_queue.specs.declared.seat.Found.{Found}
use Rattle.delete_queue.specs.Ties.{IsTold}

-- the first entry has the sequence number base + 1
abbrev pub base_of : DeleteQueue → ℕ
base_of q = q.base

-- how many seats the queue was made with
abbrev pub seats_of : DeleteQueue → ℕ
seats_of q = q.seats

abbrev pub the_view : Seat → View
the_view s = s.inner.me.0

-- the seat number, from 0
abbrev pub number_of : Seat → ℕ
number_of s = (the_view s).number

-- the seat's own entries, in order: the place of each in the list, and its words
abbrev pub own_of : Seat → List Own
own_of s = (the_view s).own

-- how many entries the seat has seen: a prefix of the list
abbrev pub seen_of : Seat → ℕ
seen_of s = length (the_view s).seen

-- a seat that was taken over: its seat number and its own entries
pub record Joined : Type 0 where
  pub number : ℕ
  pub own : List Own

abbrev pub joined_of : Old → Joined
joined_of o = record { number = o.number; own = o.own }

-- the seats that the seat took over
abbrev pub olds_of : Seat → List Joined
olds_of s = map joined_of (the_view s).olds

-- how many loads of a next word the seat has made, and what the last of them read
abbrev pub loads_of : Seat → ℕ
loads_of s = (the_view s).loaded.count

abbrev pub loaded_of : Seat → ℕ
loaded_of s = (the_view s).loaded.word

-- the sequence number of the entry at this place with this head; a turn, of kind 7, has that of the entry before it
abbrev pub number_at : ℕ → ℕ → ℕ → ℕ
number_at base place head = base + place - (if head_kind head == 7 then 1 else 0)

-- the sequence number of the last numbered entry that the seat has seen; the base where there is none
abbrev pub last_of : Seat → ℕ
last_of s = number_at s.base (seen_of s) s.progress.head

-- how many words the seat's own entries take
abbrev pub used_of : Seat → ℕ
used_of s = filled (own_of s)

-- the words left to the seat, without the two that are kept back for closing
abbrev pub left_of : Seat → ℕ
left_of s = 16642 - used_of s - 2

-- the last entry seen is known to close the queue
abbrev pub SawClosed : View → Type 0
SawClosed v = (h : ℕ) × KnowsWord v (last_or 0 v.seen + 1) h × (6 ≤ head_kind h)

-- the fields of the seat say how far its view has come
pub record Shows (v : View) (p : Progress) : Type 0 where
  pub number : p.number ≡ v.number
  pub used : p.used ≡ filled v.own
  pub count : p.count ≡ length v.seen
  pub last : p.last ≡ last_or 0 v.seen
  pub head : ((v.seen ≡ []) × (p.head ≡ 0)) ⊎ KnowsWord v (last_or 0 v.seen + 1) p.head

-- the seat's fields say how far it has come
abbrev pub IsSeat : Seat → Type 0
IsSeat s = Shows (the_view s) s.progress

-- a seat of this queue
pub record IsSeatOf (q : DeleteQueue) (s : Seat) : Type 0 where
  pub table : IsTold q s.inner
  pub base : s.base ≡ q.base
  pub spares : (the_view s).spares ≡ []
  pub shows : IsSeat s
  -- two words are kept back, until the queue is seen to be closed
  pub kept_back : (filled (the_view s).own ≤ 16640) ⊎ SawClosed (the_view s)

-- the seat has seen the entry at this place; (0, 0) stands before the first
abbrev pub HasSeen : Seat → Place → Type 0
HasSeen s place = get_elem? (0 ∷ (the_view s).seen) place.at ≡ some place.word

-- the seat knows the head of the entry at this place
pub record KnowsHead (s : Seat) (place : Place) (head : ℕ) : Type 0 where
  pub seen : HasSeen s place
  pub entry : 0 < place.at
  pub known : KnowsWord (the_view s) (place.word + 1) head

-- the seat knows that the entry at this place has so many words
abbrev pub HasSize : Seat → Place → ℕ → Type 0
HasSize s place size = (head : ℕ) × KnowsHead s place head × (size ≡ word_count head)

-- the seat knows the words of the entry at this place, counted from 1
pub record Knows (s : Seat) (place : ℕ) (words : List ℕ) : Type 0 where
  pub address : ℕ
  pub entry : 0 < place
  pub seen : get_elem? (0 ∷ (the_view s).seen) place ≡ some address
  pub some_word : 0 < length words
  pub size : length words ≡ word_count (slice_index words 0)
  pub each : (d : ℕ) → d < length words → KnowsWord (the_view s) (address + 1 + d) (slice_index words d)

-- what `Found` says of an entry is so
pub record IsFound (s : Seat) (found : Found) : Type 0 where
  pub head : ℕ
  pub known : KnowsHead s found.place head
  pub number : found.number ≡ number_at s.base found.place.at head
  pub kind : found.kind ≡ head_kind head
  pub words : found.words ≡ word_count head

-- t has seen and knows all that s had seen and known
pub record Extends (s t : Seat) : Type 0 where
  pub base : t.base ≡ s.base
  pub seen : Starts (the_view t).seen (the_view s).seen
  pub known : (a x : ℕ) → KnowsWord (the_view s) a x → KnowsWord (the_view t) a x
  pub last : last_of s ≤ last_of t

-- the same seat later: what it has linked and seen only grows
pub record Grows (s t : Seat) : Type 0 where
  pub extends : Extends s t
  pub number : number_of t ≡ number_of s
  pub olds : olds_of t ≡ olds_of s
  pub own : (more : List Own) × (own_of t ≡ own_of s ++ more)

-- the same seat later, which has linked nothing
pub record Learns (s t : Seat) : Type 0 where
  pub grows : Grows s t
  pub own : own_of t ≡ own_of s

-- an entry with these words was linked after all that are there, as the seat's own, and has the sequence number n
pub record Links (s t : Seat) (words : List ℕ) (n : ℕ) : Type 0 where
  pub own : own_of t ≡ own_of s ++ own (seen_of t) words ∷ []
  pub number : n ≡ number_at t.base (seen_of t) (slice_index words 0)
  pub last : last_of t ≡ n
  -- the entry is one that the seat had not seen
  pub later : seen_of s < seen_of t

-- the seat has seen that an entry closes the queue, and has linked nothing
pub record FindsClosed (s t : Seat) : Type 0 where
  pub own : own_of t ≡ own_of s
  pub closed : SawClosed (the_view t)

-- the seat made one load, of the next word of the last entry that it had seen
pub record Loads (s t : Seat) : Type 0 where
  pub count : loads_of t ≡ loads_of s + 1
  pub last : (the_view t).loaded.at ≡ last_or 0 (the_view s).seen

-- the first seat took over the second
pub record Meets (s o t : Seat) : Type 0 where
  pub mine : Extends s t
  pub theirs : Extends o t
  pub number : number_of t ≡ number_of s
  pub own : own_of t ≡ own_of s
  pub olds : olds_of t ≡ olds_of s ++ record { number = number_of o; own = own_of o } ∷ olds_of o
