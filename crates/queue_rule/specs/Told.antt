-- What a seat learns from the rule by a step of its own.
use Rattle.std.specs.Prelude.{◌≡◌, ℕ, ◌+◌, ◌-◌, ◌*◌, ◌<◌, ◌≤◌, ◌⊎◌, List, [], ◌∷◌, length, map, slice_index}
use mathlib.Core.Option.{some}
use lib.ListN.{get_elem?}
use Rattle.ix_base.specs.Words.{head_kind, word_count, IsEntryWords}
use Rattle.queue_rule.specs.declared.view.View.{View}
use Rattle.queue_rule.specs.declared.view.Old.{Old}
use Rattle.queue_rule.specs.declared.view.Own.{Own}
use Rattle.queue_rule.specs.Lists.{Each, Starts, last_or}
use Rattle.queue_rule.specs.Chain.{ChainEntry, start, own_from, filled, IsOpen}
use Rattle.queue_rule.specs.Views.{Knows, KnownFrom}

-- the last entry seen, if there is one, is known not to close the queue
abbrev pub SawOpen : View → Type 0
SawOpen v = (v.seen ≡ []) ⊎ ((h : ℕ) × Knows v (last_or 0 v.seen + 1) h × (head_kind h < 6))

-- a word that the view knows to be linked for good: word 0 once an entry was seen, the next word of
-- an entry behind which one was seen, a head, or a payload word of an entry whose head is known
abbrev pub MayRead : View → ℕ → Type 0
MayRead v a = ((a ≡ 0) × (0 < length v.seen)) ⊎ (((j : ℕ) × (j + 1 < length v.seen) × (get_elem? v.seen j ≡ some a))
    ⊎ ((j : ℕ) × (x : ℕ) × (d : ℕ) × (get_elem? v.seen j ≡ some x) × (a ≡ x + 1 + d)
    × ((d ≡ 0) ⊎ ((h : ℕ) × Knows v (x + 1) h × (d < word_count h)))))

-- the view has seen each of these entries at its place, and knows all its words
abbrev pub HasOwn : View → List Own → Type 0
HasOwn v os =
    (i : ℕ) (o : Own) → get_elem? os i ≡ some o
    → (a : ℕ) × (0 < o.place) × (get_elem? v.seen (o.place - 1) ≡ some a)
    × KnownFrom v.known (a + 1) o.words

-- the heads of the entries at these addresses are known
abbrev pub HeadsAt : View → List ℕ → List ℕ → Type 0
HeadsAt v addresses [] = Unit {0}
HeadsAt v [] (h ∷ hs) = ⊥
HeadsAt v (a ∷ rest) (h ∷ hs) = Knows v (a + 1) h × HeadsAt v rest hs

-- how many words entries with these heads take
abbrev pub filled_by : List ℕ → ℕ
filled_by [] = 0
filled_by (h ∷ hs) = (word_count h + 1) + filled_by hs

-- what the view of each seat in use has by the rule, whatever the table is
pub record Sound (v : View) : Type 0 where
  pub number : v.number < v.seats
  -- an entry seen lies inside the table
  pub inside : Each (λ a. (0 < a) × (a + 1 < start v.seats)) v.seen
  pub room : filled v.own + length v.draft ≤ 16642
  -- each entry takes two words or more
  pub bound : length v.seen ≤ 8321 * v.seats
  -- all entries seen have room in the table
  pub total : (hs : List ℕ) → HeadsAt v v.seen hs → filled_by hs ≤ 16642 * v.seats
  pub fits : (j a h : ℕ) → get_elem? v.seen j ≡ some a → Knows v (a + 1) h → a + 1 + word_count h ≤ start v.seats
  pub kinds : (j a h : ℕ) → get_elem? v.seen j ≡ some a → Knows v (a + 1) h → (1 ≤ head_kind h) × (head_kind h ≤ 7)
  -- only the last entry seen may close the queue
  pub opens : (j a h : ℕ) → get_elem? v.seen j ≡ some a → j + 1 < length v.seen → Knows v (a + 1) h → head_kind h < 6
  -- a known next word leads to the next entry seen
  pub nexts : (j a b x : ℕ) → get_elem? (0 ∷ v.seen) j ≡ some a → get_elem? v.seen j ≡ some b → Knows v a x → x ≡ b
  -- its own entries, and those of each joined seat, are known at their places
  pub owns : HasOwn v v.own
  pub own_words : (i : ℕ) (o : Own) → get_elem? v.own i ≡ some o → IsEntryWords o.words
  pub old_owns : Each (λ (o : Old). HasOwn v o.own) v.olds
  -- words that are all known to stand behind a seen next word are an entry's
  pub grammar : (j a : ℕ) (ws : List ℕ) → get_elem? v.seen j ≡ some a → 0 < length ws
      → length ws ≡ word_count (slice_index ws 0)
      → ((d : ℕ) → d < length ws → Knows v (a + 1 + d) (slice_index ws d)) → IsEntryWords ws
  -- at a join, both lists seen before were prefixes of what is seen now
  pub met : Each (λ o. Starts v.seen o.seen × Starts v.seen o.mine) v.olds
  pub blank : length v.seen ≡ 0 → v.known ≡ []
  pub agree : (a x y : ℕ) → Knows v a x → Knows v a y → x ≡ y

-- the entries that a view has seen are all there are
pub record Whole (v : View) : Type 0 where
  pub entries : List ChainEntry
  pub seen : map (λ (e : ChainEntry). e.at) entries ≡ v.seen
  -- its own entries, and those of each joined seat, are those of its number
  pub owns : v.own ≡ own_from v.number 1 entries
  pub olds : Each (λ (o : Old). o.own ≡ own_from o.number 1 entries) v.olds
  -- an entry lies in the stretch of its seat
  pub seats : (j : ℕ) (e : ChainEntry) → get_elem? entries j ≡ some e
      → (e.seat < v.seats) × (start e.seat ≤ e.at) × (e.at < start (e.seat + 1))
  pub grammar : (j : ℕ) (e : ChainEntry) → get_elem? entries j ≡ some e → IsEntryWords e.words
  -- only the last may close the queue
  pub opens : (j : ℕ) (e : ChainEntry) → get_elem? entries j ≡ some e → j + 1 < length entries → IsOpen e.words
  -- what is known of an entry's words agrees with it
  pub words : (j : ℕ) (e : ChainEntry) (d x : ℕ) → get_elem? entries j ≡ some e → d < length e.words
      → Knows v (e.at + 1 + d) x → x ≡ slice_index e.words d
