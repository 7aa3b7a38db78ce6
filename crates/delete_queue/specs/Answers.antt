-- What a clause says of what a call returns.
use Rattle.std.specs.Prelude.{◌≡◌, ◌≢◌, ℕ, ◌+◌, ◌<◌, ◌≤◌, List, slice_index}
use Rattle.ix_base.specs.Words.{head_kind, entry_words, IsEntryWords}
use Rattle.ix_base.specs.Entry as e
use Rattle.queue_rule.specs.Told.{Whole}
use Rattle.delete_queue.specs.declared.seat.Seat.{Seat}
use Rattle.delete_queue.specs.declared.seat.Found.{Found}
use Rattle.delete_queue.specs.declared.seat.Linked.{Linked}
use Rattle.delete_queue.specs.declared.seat.Linked.TheVariants.{At, Closed, Full}
use Rattle.delete_queue.specs.declared.seat.Look.{Look}
use Rattle.delete_queue.specs.declared.seat.Look.TheVariants.{Entry, End}
use Rattle.delete_queue.specs.declared.seat.Closing.{Closing}
use Rattle.delete_queue.specs.declared.seat.Closing.TheVariants.{Commit, Turn}
use Rattle.delete_queue.specs.Seats.{seen_of, loaded_of, the_view, IsFound}

-- the words of an entry that doesn't close the queue
pub record IsOperation (words : List ℕ) : Type 0 where
  pub grammar : IsEntryWords words
  pub kind : head_kind (slice_index words 0) < 6

abbrev pub closing_words : Closing → List ℕ
closing_words Commit = entry_words e.commit
closing_words Turn = entry_words e.turn

abbrev pub IfTurn : Closing → Type 0 → Type 0
IfTurn Commit P = Unit {0}
IfTurn Turn P = P

abbrev pub IfAt : Linked → (ℕ → Type 0) → Type 0
IfAt (At n) P = P n
IfAt Closed P = Unit {0}
IfAt (Full need left) P = Unit {0}

abbrev pub IfClosed : Linked → Type 0 → Type 0
IfClosed (At n) P = Unit {0}
IfClosed Closed P = P
IfClosed (Full need left) P = Unit {0}

abbrev pub IfFull : Linked → Type 0 → Type 0
IfFull (At n) P = Unit {0}
IfFull Closed P = Unit {0}
IfFull (Full need left) P = P

-- Full comes, with these two numbers, exactly where more words are needed than are left
abbrev pub FullExactly : Linked → ℕ → ℕ → Type 0
FullExactly (At n) need left = need ≤ left
FullExactly Closed need left = need ≤ left
FullExactly (Full a b) need left = (a ≡ need) × (b ≡ left) × (left < need)

-- the next entry was found
pub record FindsNext (s t : Seat) (found : Found) : Type 0 where
  pub seen : seen_of t ≡ seen_of s + 1
  pub place : found.place.at ≡ seen_of t
  pub is : IsFound t found
  pub loaded : loaded_of t ≢ 0

-- the load read 0: the seat has seen all entries that there are
pub record FindsEnd (s t : Seat) : Type 0 where
  pub seen : (the_view t).seen ≡ (the_view s).seen
  pub loaded : loaded_of t ≡ 0
  pub whole : Whole (the_view t)

abbrev pub IfEntry : Look → (Found → Type 0) → Type 0
IfEntry (Entry found) P = P found
IfEntry End P = Unit {0}

abbrev pub IfEnd : Look → Type 0 → Type 0
IfEnd (Entry found) P = Unit {0}
IfEnd End P = P
