-- What a finished log is.
use Rattle.std.specs.Prelude.{◌≡◌, ℕ, ◌+◌, ◌-◌, ◌<◌, ◌≤◌, ◌==◌, ◌⊎◌, if◌then◌else◌, List, [], ◌∷◌, map, length, slice_index}
use mathlib.Core.Option.{some}
use lib.ListN.{get_elem?}
use Rattle.ix_base.specs.Words.{head_kind, IsEntryWords}
use Rattle.queue_rule.specs.declared.view.Own.{Own}
use Rattle.queue_rule.specs.Lists.{Each}
use Rattle.queue_rule.specs.Chain.{own}
use Rattle.delete_queue.specs.declared.queue.DeleteQueue.{DeleteQueue}
use Rattle.delete_queue.specs.declared.seat.Seat.{Seat}
use Rattle.delete_queue.specs.declared.log.QueueLog.{QueueLog}
use Rattle.delete_queue.specs.Seats.{Joined, Extends, Knows, base_of, seats_of, number_of, own_of, seen_of, olds_of, last_of, number_at}
use Rattle.delete_queue.specs.Cuts.{pieces_from}

-- the words of each entry of the log, in order
abbrev pub entries_of : QueueLog → List (List ℕ)
entries_of log = pieces_from 0 log.ends.items log.words.items

-- an entry of the list: the seat number of the seat that linked it, and its words
pub record Logged : Type 0 where
  pub seat : ℕ
  pub words : List ℕ

-- the entries of seat i with their places, where the first entry of the list has place p
abbrev pub own_in : ℕ → ℕ → List Logged → List Own
own_in i p [] = []
own_in i p (e ∷ es) = if e.seat == i then own p e.words ∷ own_in i (p + 1) es else own_in i (p + 1) es

-- the seat has these as the own entries of seat number n: its own, or of a seat that it took over
abbrev pub HoldsList : Seat → ℕ → List Own → Type 0
HoldsList s n os =
    ((number_of s ≡ n) × (own_of s ≡ os))
    ⊎ ((i : ℕ) × (get_elem? (olds_of s) i ≡ some (record { number = n; own = os })))

-- t has seen, knows and holds all that s had seen, known and held
pub record TakesIn (t s : Seat) : Type 0 where
  pub extends : Extends s t
  pub own : HoldsList t (number_of s) (own_of s)
  pub olds : Each (λ (j : Joined). HoldsList t j.number j.own) (olds_of s)

-- the list holds what the seat linked, as its entries of that number, and what the seat knows is so there
pub record HasAllOf (entries : List (List ℕ)) (list : List Logged) (s : Seat) : Type 0 where
  pub owns : own_of s ≡ own_in (number_of s) 1 list
  pub olds : Each (λ (j : Joined). j.own ≡ own_in j.number 1 list) (olds_of s)
  pub seen : seen_of s ≤ length list
  pub agrees : (place : ℕ) (words : List ℕ) → Knows s place words → get_elem? entries (place - 1) ≡ some words

-- the head of the last entry; h where there is none
abbrev pub last_head_or : ℕ → List (List ℕ) → ℕ
last_head_or h [] = h
last_head_or h (words ∷ rest) = last_head_or (slice_index words 0) rest

-- the sequence number of the last numbered entry; the base where there is none
abbrev pub last_number : ℕ → List (List ℕ) → ℕ
last_number base entries = number_at base (length entries) (last_head_or 0 entries)

-- the log is the whole list of the queue
pub record IsLogOf (q : DeleteQueue) (all : List Seat) (log : QueueLog) : Type 0 where
  pub base : log.base ≡ base_of q
  pub list : List Logged
  pub words : entries_of log ≡ map (λ (e : Logged). e.words) list
  pub numbers : Each (λ (e : Logged). e.seat < seats_of q) list
  pub grammar : Each (λ (e : Logged). IsEntryWords e.words) list
  -- nothing follows an entry that closes the queue
  pub closes : (i : ℕ) (e : Logged) → get_elem? list i ≡ some e → i + 1 < length list
      → head_kind (slice_index e.words 0) < 6
  pub seats : Each (HasAllOf (entries_of log) list) all
  -- no seat has seen an entry with a higher sequence number than the last one of the log
  pub lasts : Each (λ (s : Seat). last_of s ≤ last_number (base_of q) (entries_of log)) all
