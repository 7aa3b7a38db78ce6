-- The law of the rule: what holds at the start, and that each kind of step keeps it. `Allows` of
-- atomic_table says: whatever the table is when the step comes, the seat has a new view that keeps
-- the rule, and of which the step tells what stands behind.
use Rattle.std.specs.Prelude.{◌≡◌, ℕ, true, ◌==◌, ◌+◌, ◌<◌, ◌≤◌, List, [], ◌∷◌, length, slice_index}
use mathlib.Core.Option.{none}
use prog.Atomic.{either}
use Rattle.atomic_table.specs.Table.{step, Allows, Splits, Joins, opening}
use Rattle.ix_base.specs.Words.{IsEntryWords}
use Rattle.queue_rule.specs.declared.view.View.{View}
use Rattle.queue_rule.specs.Lists.{last_or}
use Rattle.queue_rule.specs.Chain.{start}
use Rattle.queue_rule.specs.Views.{draft_start, view_of, newcomer, kept_back, split_off, joined, spent}
use Rattle.queue_rule.specs.Rule.{Kept}
use Rattle.queue_rule.specs.Told.{MayRead, SawOpen, Sound}
use Rattle.queue_rule.specs.Steps.{Drafted, Tried, Looked, HasRead}

-- a table of zero words, or with any words behind word 0, meets the rule
abbrev pub OpeningKept : Type 0
OpeningKept =
    (k : ℕ) (words : List ℕ) → 0 < k → length words ≡ start k → slice_index words 0 ≡ 0
    → Kept k (opening words [] (newcomer k))

-- a store of a word over the draft or at its end, inside the seat's stretch
abbrev pub StoreKept : Type 0
StoreKept =
    (k slots id : ℕ) (v : View) (carried : List (ℕ × Unit {0})) (word x : ℕ) → v.live ≡ true
    → draft_start v ≤ word → word ≤ draft_start v + length v.draft → word < start v.number + 16642
    → Allows (Kept k) slots id (v, carried) word (λ _. x) (λ _ m. Drafted (step slots word x 0 none) (v, carried) x m × Sound m.0)

-- a compare-exchange on the next word of the last entry seen, which doesn't close the queue, from 0
-- to the address of a draft that is an entry
abbrev pub ExchangeKept : Type 0
ExchangeKept =
    (k slots id : ℕ) (v : View) (carried : List (ℕ × Unit {0})) (words : List ℕ) → v.live ≡ true
    → SawOpen v → v.draft ≡ 0 ∷ words → IsEntryWords words
    → Allows (Kept k) slots id (v, carried) (last_or 0 v.seen) (λ n. either (n == 0) (draft_start v) n) (λ n m. Tried (step slots (last_or 0 v.seen) 0 (draft_start v) none) (v, carried) n m × Sound m.0)

-- a load of the next word of the last entry seen
abbrev pub NextLoadKept : Type 0
NextLoadKept = (k slots id : ℕ) (v : View) (carried : List (ℕ × Unit {0})) → v.live ≡ true
    → Allows (Kept k) slots id (v, carried) (last_or 0 v.seen) (λ n. n) (λ n m. Looked (step slots (last_or 0 v.seen) 0 0 none) (v, carried) n m × Sound m.0)

-- a load of a linked word
abbrev pub LinkedLoadKept : Type 0
LinkedLoadKept = (k slots id : ℕ) (v : View) (carried : List (ℕ × Unit {0})) (a : ℕ) → v.live ≡ true → MayRead v a
    → Allows (Kept k) slots id (v, carried) a (λ n. n) (λ n m. HasRead (step slots a 0 0 none) (v, carried) n m × Sound m.0)

-- a split gives a new seat the first number that is left
abbrev pub SplitKept : Type 0
SplitKept =
    (k id : ℕ) (v : View) (m : ℕ) (rest : List ℕ) → v.live ≡ true → v.spares ≡ m ∷ rest
    → Splits (Kept k) id v (kept_back v) (split_off v)

-- a join takes over a seat that has no number left to split off
abbrev pub JoinKept : Type 0
JoinKept =
    (k id : ℕ) (v : View) (other : ℕ) (w : View) → v.live ≡ true → w.live ≡ true → w.spares ≡ []
    → Joins (Kept k) id v other w (joined v w) spent

-- what the rule has for a seat that has made no step
abbrev pub FreshIsSound : Type 0
FreshIsSound = (k n : ℕ) (spares : List ℕ) → n < k → Sound (view_of k n spares [])
