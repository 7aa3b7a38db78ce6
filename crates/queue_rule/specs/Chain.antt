-- How entries stand in the table. Word 0 is the first next word. The stretch of seat i begins at
-- 16642 * i + 1 and has 16642 words. An entry is its next word, and behind it the words that spell
-- it. Its address is that of its next word.
use Rattle.std.specs.Prelude.{◌≡◌, ℕ, ◌+◌, ◌*◌, ◌<◌, ◌≤◌, ◌==◌, ◌⊎◌, if◌then◌else◌, List, [], ◌∷◌, length, slice_index}
use mathlib.Core.Option.{some}
use lib.ListN.{get_elem?}
use Rattle.ix_base.specs.Words.{head_kind, IsEntryWords}
use Rattle.queue_rule.specs.declared.view.Own.{Own}

-- an entry of the chain: in whose stretch it lies, its address, and its words
pub record ChainEntry : Type 0 where
  pub seat : ℕ
  pub at : ℕ
  pub words : List ℕ

-- how many words of the table an entry takes
abbrev pub need : ChainEntry → ℕ
need e = length e.words + 1

-- the first address of the stretch of seat i; of k seats also the length of the table
abbrev pub start : ℕ → ℕ
start i = 16642 * i + 1

-- how many words the entries of seat i take
abbrev pub used : ℕ → List ChainEntry → ℕ
used i [] = 0
used i (e ∷ es) = (if e.seat == i then need e else 0) + used i es

-- the addresses that next words lead to, from the next word at `at` on, to a next word 0
abbrev pub Chained : List ℕ → ℕ → List ℕ → Type 0
Chained ws at [] = slice_index ws at ≡ 0
Chained ws at (a ∷ rest) = (slice_index ws at ≡ a) × (0 < a) × Chained ws a rest

-- these words stand from `at` on
abbrev pub Spelled : List ℕ → ℕ → List ℕ → Type 0
Spelled ws at xs = (j : ℕ) → j < length xs → slice_index ws (at + j) ≡ slice_index xs j

-- the entry doesn't close the queue: commits and turns do
abbrev pub IsOpen : List ℕ → Type 0
IsOpen words = head_kind (slice_index words 0) < 6

-- a seat's own entry
abbrev pub own : ℕ → List ℕ → Own
own p xs = record { place = p; words = xs }

-- the entries of seat i with their places, where the first entry of the list has place p
abbrev pub own_from : ℕ → ℕ → List ChainEntry → List Own
own_from i p [] = []
own_from i p (e ∷ es) = if e.seat == i then own p e.words ∷ own_from i (p + 1) es else own_from i (p + 1) es

-- how many words a seat's own entries take
abbrev pub filled : List Own → ℕ
filled [] = 0
filled (o ∷ os) = (length o.words + 1) + filled os

-- where an entry lies, if these stand before it in the chain: its seat's entries fill the stretch
-- from its first word on without holes
pub record Lies (k : ℕ) (ws : List ℕ) (before : List ChainEntry) (e : ChainEntry) : Type 0 where
  pub seat : e.seat < k
  pub at : e.at ≡ start e.seat + used e.seat before
  pub room : used e.seat before + need e ≤ 16642
  pub spelled : Spelled ws (e.at + 1) e.words
  pub grammar : IsEntryWords e.words

-- the word at a is word 0, or one of an entry
abbrev pub IsLinked : List ChainEntry → ℕ → Type 0
IsLinked es a = (a ≡ 0) ⊎ ((j : ℕ) × (e : ChainEntry) × (get_elem? es j ≡ some e) × (e.at ≤ a) × (a < e.at + need e))

-- the word at a is word 0, or the next word of an entry
abbrev pub IsNext : List ChainEntry → ℕ → Type 0
IsNext es a = (a ≡ 0) ⊎ ((j : ℕ) × (e : ChainEntry) × (get_elem? es j ≡ some e) × (e.at ≡ a))
