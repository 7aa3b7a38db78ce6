-- What the layers above use of slices.
use Rattle.std.specs.Prelude.{ℕ, ◌+◌, ◌≤◌, List}
use Rattle.ix_base.specs.Words.{IsEntryWords}
use Rattle.node_words.specs.declared.entry.Entry.{Entry}
use Rattle.queue_rule.specs.Lists.{Each}
use Rattle.delete_queue.specs.declared.queue.DeleteQueue.{DeleteQueue}
use Rattle.delete_queue.specs.declared.seat.Seat.{Seat}
use Rattle.delete_queue.specs.declared.log.QueueLog.{QueueLog}
use Rattle.delete_queue.specs.Seats.{IsSeatOf, Knows, Extends, base_of, last_of}
use Rattle.delete_queue.specs.Log.{entries_of, IsLogOf, HasAllOf, Logged}
use Rattle.frozen_packet.specs.declared.updates.Updates.{Updates}
use Rattle.frozen_packet.specs.Updates.{as_operations, NumberedWithin}
use Rattle.delete_slice.specs.declared.slice.Slice.{Slice}
use Rattle.delete_slice.specs.Slices.{IsSliceOf}
use Rattle.delete_slice.specs.Entries.{Standing, Has, HasEntries, numbers_behind}
use Rattle.delete_slice.specs.Taken.{AreWithin, TakesPart}

-- the words of each entry of the log are in the grammar
abbrev pub IsInGrammar : QueueLog → Type 0
IsInGrammar log = Each IsEntryWords (entries_of log)

-- The log of a finished queue is in the grammar.
abbrev pub LogsAreInGrammar : Type 0
LogsAreInGrammar = (q : DeleteQueue) (all : List Seat) (log : QueueLog) → IsLogOf q all log → IsInGrammar log

-- A part, and then the part after it, are one part.
abbrev pub PartsChain : Standing → Type 0
PartsChain Stands = (base from mid to : ℕ) (old between new : Updates)
    → TakesPart Stands base from mid old between → TakesPart Stands base mid to between new
    → TakesPart Stands base from to old new

-- Bounds on the numbers in updates stay bounds when the updates take a part whose places, added to
-- the base, are within them.
abbrev pub PartsStayWithin : Standing → Type 0
PartsStayWithin Stands = (base from to after upto : ℕ) (old new : Updates) → TakesPart Stands base from to old new
    → NumberedWithin after upto (as_operations old) → after ≤ base + from → base + to ≤ upto
    → NumberedWithin after upto (as_operations new)

-- A slice of what a seat has seen stays one, however much more the seat sees.
abbrev pub SlicesStay : Type 0
SlicesStay = (s t : Seat) (slice : Slice) → Extends s t → IsSliceOf s slice → IsSliceOf t slice

-- What a seat knew of a part, it knows later.
abbrev pub PartsStay : Type 0
PartsStay = (s t : Seat) (base from to : ℕ) (old new : Updates) → Extends s t
    → TakesPart (Knows s) base from to old new → TakesPart (Knows t) base from to old new

-- What a seat knows of a part, the log has.
abbrev pub PartsAreLogged : Type 0
PartsAreLogged =
    (log : QueueLog) (list : List Logged) (s : Seat) (base from to : ℕ) (old new : Updates)
    → HasAllOf (entries_of log) list s
    → TakesPart (Knows s) base from to old new → TakesPart (Has log) base from to old new

-- The entries that a seat knows after a place have sequence numbers above the base plus that place, and none above
-- that of the last numbered entry that the seat has seen.
abbrev pub NumbersEndAtLast : Type 0
NumbersEndAtLast =
    (q : DeleteQueue) (s : Seat) (from : ℕ) (entries : List Entry) → IsSeatOf q s
    → HasEntries (Knows s) from entries
    → AreWithin (base_of q + from) (last_of s) (numbers_behind (base_of q) from entries)

-- Updates without a number above that of the last numbered entry that a seat has seen have none
-- after they took a part that it knows.
abbrev pub PartsEndAtLast : Type 0
PartsEndAtLast =
    (q : DeleteQueue) (s : Seat) (from to after : ℕ) (old new : Updates) → IsSeatOf q s
    → TakesPart (Knows s) (base_of q) from to old new
    → NumberedWithin after (last_of s) (as_operations old) → after ≤ base_of q + from
    → NumberedWithin after (last_of s) (as_operations new)
