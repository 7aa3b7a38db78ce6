-- Updates that took the entries after a place.
use Rattle.std.specs.Prelude.{◌≡◌, ℕ, ◌+◌, ◌<◌, ◌≤◌, List, ◌++◌, length}
use Rattle.std.specs.List.{AllByRecursion}
use Rattle.ix_base.specs.Words.{Spells}
use Rattle.node_words.specs.Entry.{value_of}
use Rattle.node_words.specs.declared.entry.Entry.{Entry}
use Rattle.delete_queue.specs.declared.queue.DeleteQueue.{DeleteQueue}
use Rattle.delete_queue.specs.declared.seat.Seat.{Seat}
use Rattle.delete_queue.specs.declared.log.QueueLog.{QueueLog}
use Rattle.delete_queue.specs.Seats.{Knows, base_of}
use Rattle.row_fates.specs.Fate.{SameFates}
use Rattle.frozen_packet.specs.declared.updates.Updates.{Updates}
use Rattle.frozen_packet.specs.Updates.{as_operations, entry_operation, NumberedWithin, NumberedUpTo}
use Rattle.delete_slice.specs.declared.slice.Slice.{Slice}
use Rattle.delete_slice.specs.Entries.{Standing, Has, HasEntries, operations_behind, own_number, numbers_behind}

-- the updates have no number above this one
abbrev pub HaveUpTo : ℕ → Updates → Type 0
HaveUpTo upto updates = NumberedUpTo upto (as_operations updates)

-- the numbers are above `after`, and `upto` at most
abbrev pub AreWithin : ℕ → ℕ → List ℕ → Type 0
AreWithin after upto numbers = AllByRecursion (λ (n : ℕ). (after < n) × (n ≤ upto)) numbers

-- bounds of the numbers before and of these numbers are bounds of the numbers now
abbrev pub KeepsBoundsOf : List ℕ → Updates → Updates → Type 0
KeepsBoundsOf numbers old new =
    (after upto : ℕ) → NumberedWithin after upto (as_operations old) → AreWithin after upto numbers
    → NumberedWithin after upto (as_operations new)

-- The updates took all entries after the place `from`, up to the place `to`: they make of every
-- row what they made of it before and then the operations of these entries.
pub record TakesPart (Stands : Standing) (base from to : ℕ) (old new : Updates) : Type 0 where
  pub entries : List Entry
  pub ends : from + length entries ≡ to
  pub stand : HasEntries Stands from entries
  pub fates : SameFates (as_operations new) (as_operations old ++ operations_behind base from entries)
  pub bounds : KeepsBoundsOf (numbers_behind base from entries) old new
  pub upto : HaveUpTo (base + to) new

-- the updates took the one entry after the place `from`
abbrev pub TakesEntry : Standing → ℕ → ℕ → Updates → Updates → Type 0
TakesEntry Stands base from old new = TakesPart Stands base from (from + 1) old new

-- the updates took the entry after a place, whose words the seat knows
abbrev pub TakesNext : DeleteQueue → Seat → ℕ → Updates → Updates → Type 0
TakesNext q s from old new = TakesEntry (Knows s) (base_of q) from old new

-- the updates took the entry after a place, as the log has it
abbrev pub TakesNextLogged : QueueLog → ℕ → Updates → Updates → Type 0
TakesNextLogged log from old new = TakesEntry (Has log) log.base from old new

-- the updates took a prefix of these entries, up to some place
abbrev pub TakesSomePart : Standing → ℕ → ℕ → ℕ → Updates → Updates → Type 0
TakesSomePart Stands base from to old new = (reached : ℕ) × (reached ≤ to) × TakesPart Stands base from reached old new

-- the updates took the slice's entries, whose words the seat knows
abbrev pub TakesSlice : DeleteQueue → Seat → Slice → Updates → Updates → Type 0
TakesSlice q s slice old new = TakesPart (Knows s) (base_of q) slice.from.at slice.to.at old new

-- the updates took a prefix of the slice's entries, whose words the seat knows
abbrev pub TakesSome : DeleteQueue → Seat → Slice → Updates → Updates → Type 0
TakesSome q s slice old new = TakesSomePart (Knows s) (base_of q) slice.from.at slice.to.at old new

-- the updates took the slice's entries, as the log has them
abbrev pub TakesLogged : QueueLog → Slice → Updates → Updates → Type 0
TakesLogged log slice old new = TakesPart (Has log) log.base slice.from.at slice.to.at old new

-- the updates took a prefix of the slice's entries, as the log has them
abbrev pub TakesSomeLogged : QueueLog → Slice → Updates → Updates → Type 0
TakesSomeLogged log slice old new = TakesSomePart (Has log) log.base slice.from.at slice.to.at old new

-- the updates took the entry that these words spell, with this number
pub record TakesWords (number : ℕ) (words : List ℕ) (old new : Updates) : Type 0 where
  pub entry : Entry
  pub spell : Spells words (value_of entry)
  pub fates : SameFates (as_operations new) (as_operations old ++ entry_operation number entry)
  pub bounds : KeepsBoundsOf (own_number number entry) old new
  pub upto : HaveUpTo number new
