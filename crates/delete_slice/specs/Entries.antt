-- Entries after a place of the list: their words, their operations and their sequence numbers.
use Rattle.std.specs.Prelude.{◌≡◌, ℕ, ◌+◌, ◌-◌, ◌<◌, List, [], ◌∷◌, ◌++◌}
use mathlib.Core.Option.{some}
use lib.ListN.{get_elem?}
use Rattle.ix_base.specs.Words.{Spells}
use Rattle.node_words.specs.Entry.{value_of}
use Rattle.node_words.specs.declared.entry.Entry.{Entry}
use Rattle.node_words.specs.declared.entry.Entry.TheVariants as e
use Rattle.delete_queue.specs.declared.log.QueueLog.{QueueLog}
use Rattle.delete_queue.specs.Log.{entries_of}
use Rattle.row_fates.specs.Fate.{Numbered}
use Rattle.frozen_packet.specs.Updates.{entry_operation}

-- Which words stand at a place, from 1: as a seat knows them, or as a log has them.
abbrev pub Standing : Type 1
Standing = ℕ → List ℕ → Type 0

-- the log has these words at the place
pub record Has (log : QueueLog) (place : ℕ) (words : List ℕ) : Type 0 where
  pub entry : 0 < place
  pub at : get_elem? (entries_of log) (place - 1) ≡ some words

-- words that spell the entry stand at the place
pub record HasEntry (Stands : Standing) (place : ℕ) (entry : Entry) : Type 0 where
  pub words : List ℕ
  pub stand : Stands place words
  pub spell : Spells words (value_of entry)

-- these entries stand after the place `from`, the first of them at the next place
abbrev pub HasEntries : Standing → ℕ → List Entry → Type 0
HasEntries Stands from [] = Unit {0}
HasEntries Stands from (entry ∷ rest) = HasEntry Stands (from + 1) entry × HasEntries Stands (from + 1) rest

-- The operations of the entries after a place. The entry at place p has the sequence number base + p.
abbrev pub operations_behind : ℕ → ℕ → List Entry → List Numbered
operations_behind base from [] = []
operations_behind base from (entry ∷ rest) =
    entry_operation (base + (from + 1)) entry ++ operations_behind base (from + 1) rest

-- the sequence number of an entry; a turn has none
abbrev pub own_number : ℕ → Entry → List ℕ
own_number n e.Add = n ∷ []
own_number n (e.Update term) = n ∷ []
own_number n (e.DeleteTerm term) = n ∷ []
own_number n (e.DeleteQuery query) = n ∷ []
own_number n (e.SetNumber term num value) = n ∷ []
own_number n e.Commit = n ∷ []
own_number n e.Turn = []

-- the sequence numbers of the entries after a place
abbrev pub numbers_behind : ℕ → ℕ → List Entry → List ℕ
numbers_behind base from [] = []
numbers_behind base from (entry ∷ rest) = own_number (base + (from + 1)) entry ++ numbers_behind base (from + 1) rest
