-- The rule of the linked queue, over the table's words and the views of all seats in use.
use Rattle.std.specs.Prelude.{◌≡◌, ◌≢◌, ℕ, true, ◌+◌, ◌<◌, ◌≤◌, List, [], ◌∷◌, ◌++◌, map, length, take, slice_index}
use mathlib.Core.Option.{some}
use lib.ListN.{get_elem?}
use Rattle.atomic_table.specs.Table.{State}
use Rattle.queue_rule.specs.declared.view.View.{View}
use Rattle.queue_rule.specs.declared.view.Known.{Known}
use Rattle.queue_rule.specs.declared.view.Old.{Old}
use Rattle.queue_rule.specs.Lists.{Each, Starts, times}
use Rattle.queue_rule.specs.Chain.{ChainEntry, start, used, own_from, Chained, Spelled, IsOpen, Lies, IsLinked, IsNext}
use Rattle.queue_rule.specs.Views.{numbers, KnownFrom}

-- the sum of f over the views
abbrev pub total : (View → ℕ) → List View → ℕ
total f [] = 0
total f (v ∷ vs) = f v + total f vs

-- a known word stays: it is a head, a payload word, or a next word that isn't 0
pub record IsKnown (ws : List ℕ) (es : List ChainEntry) (x : Known) : Type 0 where
  pub linked : IsLinked es x.at
  pub present : slice_index ws x.at ≡ x.word
  pub stays : IsNext es x.at → x.word ≢ 0

-- the entries of seat i are among the first n of the chain, and all their words are known
abbrev pub KnowsAll : List ChainEntry → List Known → ℕ → ℕ → Type 0
KnowsAll es ks n i =
    (j : ℕ) (e : ChainEntry) → get_elem? es j ≡ some e → e.seat ≡ i
    → (j < n) × KnownFrom ks (e.at + 1) e.words

-- what a view that has seen n entries and knows these words keeps of a joined seat
pub record IsOld (es : List ChainEntry) (ks : List Known) (n : ℕ) (o : Old) : Type 0 where
  -- its own entries are those of its number
  pub owns : o.own ≡ own_from o.number 1 es
  -- both seen lists are prefixes of the chain
  pub seen : Starts (map (λ (e : ChainEntry). e.at) es) o.seen
  pub mine : Starts (map (λ (e : ChainEntry). e.at) es) o.mine
  pub seen_short : length o.seen ≤ n
  pub mine_short : length o.mine ≤ n
  pub held : KnowsAll es ks n o.number

-- what a seat in use knows is so
pub record Fits (k : ℕ) (ws : List ℕ) (es : List ChainEntry) (v : View) : Type 0 where
  pub number : v.number < k
  pub seats : v.seats ≡ k
  -- its own entries are those of its number
  pub owns : v.own ≡ own_from v.number 1 es
  pub held : KnowsAll es v.known (length v.seen) v.number
  pub olds : Each (IsOld es v.known (length v.seen)) v.olds
  pub blank : length v.seen ≡ 0 → v.known ≡ []
  -- a number that no seat has yet has no entry
  pub spares : Each (λ n. (n < k) × (own_from n 1 es ≡ [])) v.spares
  pub room : used v.number es + length v.draft ≤ 16642
  -- behind its own entries stands its draft
  pub draft : Spelled ws (start v.number + used v.number es) v.draft
  -- the entries seen are a prefix of the chain
  pub unseen : List ℕ
  pub seen : map (λ (e : ChainEntry). e.at) es ≡ v.seen ++ unseen
  pub known : Each (IsKnown ws es) v.known

-- the rule of a table for k seats
pub record Kept (k : ℕ) (s : State (Unit {0}) View) : Type 0 where
  pub entries : List ChainEntry
  pub long : length s.words ≡ start k
  -- next words lead from word 0 along the entries to a 0
  pub chained : Chained s.words 0 (map (λ (e : ChainEntry). e.at) entries)
  pub lies : (j : ℕ) (e : ChainEntry) → get_elem? entries j ≡ some e → Lies k s.words (take j entries) e
  -- only the last entry may close the queue
  pub opens : (j : ℕ) (e : ChainEntry) → get_elem? entries j ≡ some e → j + 1 < length entries → IsOpen e.words
  -- each seat number is held exactly once
  pub once : (n : ℕ) → n < k → total (λ v. times n (numbers v)) s.views ≡ 1
  pub fits : (id : ℕ) (v : View) → get_elem? s.views id ≡ some v → v.live ≡ true → Fits k s.words entries v
