-- Parts of a finished queue's log.
use Rattle.std.proofs.Common.{◌≡◌, ℕ, zero, suc, ◌+◌, ◌-◌, List, [], ◌∷◌, map, sym, subst, arith}
use mathlib.Core.Option.{some, some-injective}
use lib.ListN.{get_elem?}
use Rattle.ix_base.specs.Words.{IsEntryWords}
use Rattle.queue_rule.specs.Lists.{Each}
use Rattle.delete_queue.specs.declared.log.QueueLog.{QueueLog}
use Rattle.delete_queue.specs.Seats.{Knows}
use Rattle.delete_queue.specs.Log.{Logged, entries_of}
use Rattle.delete_slice.specs.Entries.{Has}
use Rattle.delete_slice.specs.Laws.{LogsAreInGrammar, PartsAreLogged}
use Rattle.delete_slice.proofs.Parts.{parts_stand}

each_words : (list : List Logged) → Each (λ (e : Logged). IsEntryWords e.words) list → Each IsEntryWords (map (λ (e : Logged). e.words) list)
each_words [] h = tt
each_words (e ∷ list) h = (h.0, each_words list h.1)

pub logs_are_in_grammar : LogsAreInGrammar
logs_are_in_grammar q all log is = subst (Each IsEntryWords) (sym is.words) (each_words is.list is.grammar)

pub parts_are_logged : PartsAreLogged
parts_are_logged log list s base from to old new has f =
    parts_stand (Knows s) (Has log) (λ place words k. record { entry = k.entry; at = has.agrees place words k }) base from to old new f

-- the entry at a place of the log is in the grammar
pub entry_in_grammar : (log : List (List ℕ)) (i : ℕ) (words : List ℕ) → Each IsEntryWords log → get_elem? log i ≡ some words → IsEntryWords words
entry_in_grammar [] i words h at = cc
entry_in_grammar (x ∷ log) zero words h at = subst IsEntryWords (some-injective x words at) h.0
entry_in_grammar (x ∷ log) (suc i) words h at = entry_in_grammar log i words h.1 at

-- an index from 0 is the place one further
pub has_entry : (log : QueueLog) (i : ℕ) (words : List ℕ) → get_elem? (entries_of log) i ≡ some words → Has log (i + 1) words
has_entry log i words at = record {
  entry = omega arith;
  at = subst (λ (n : ℕ). get_elem? (entries_of log) n ≡ some words) (let same : i ≡ i + 1 - 1 = omega arith in same) at;
}
