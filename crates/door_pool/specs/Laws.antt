-- The laws of the rule: what holds at the start, that each kind of step keeps the rule, and what
-- the rule says of a door. `Allows` of atomic_table says: whatever the table is when the step
-- comes, the seat has a new view that keeps the rule, and of which the step tells what stands
-- behind.
use Rattle.std.specs.Prelude.{◌≡◌, ◌⊎◌, ◌↔◌, ℕ, ◌+◌, ◌==◌, ◌<◌, true, false, List, ◌∷◌, length, slice_index, Option, Some}
use mathlib.Core.Option.{some}
use prog.Atomic.{either}
use lib.ListN.{get_elem?}
use Rattle.atomic_table.specs.Table.{State, Me, Allows, Splits, opening, rest}
use Rattle.door_pool.specs.declared.view.View.{View}
use Rattle.door_pool.specs.Views.{deed_at, taken_at, after_split, next_pass, keeper_of}
use Rattle.door_pool.specs.Rule.{Kept, HasView}
use Rattle.door_pool.specs.Steps.{Enters, Leaves, Takes}
use Rattle.door_pool.specs.Passes.{AreFresh}

module _ {H D T : Type 0} (deed_of : H → D) (told_of : H → List T) where
  -- ---- each kind of step keeps the rule

  -- a table of zero words, two more than it has slots, with a hand in each slot that was told nothing
  abbrev pub OpeningKept : Type 0
  OpeningKept = (words : List ℕ) (slots : List (Option H)) → AreFresh told_of slots → length words ≡ length slots + 2
      → ((i : ℕ) → slice_index words i ≡ 0)
      → Kept deed_of told_of (length slots) (opening words slots (keeper_of deed_of slots))

  -- a pass that is out exchanges 0 for 1 at its door
  abbrev pub EnterKept : Type 0
  EnterKept = (n slots id : ℕ) (me : Me (Option H) (View D T)) (d : ℕ) → me.0.is_pass ≡ true → me.0.is_keeper ≡ false
      → me.0.inside ≡ false → me.0.door ≡ d
      → Allows (Kept deed_of told_of n) slots id me (d + 2) (λ (x : ℕ). either (x == 0) 1 x) (Enters deed_of told_of me)

  -- a pass that is in, and has the slot with a hand of its deed, stores 0 at its door
  abbrev pub LeaveKept : Type 0
  LeaveKept =
      (n slots id : ℕ) (me : Me (Option H) (View D T)) (d : ℕ) (h : H) → me.0.is_pass ≡ true
      → me.0.is_keeper ≡ false
      → me.0.inside ≡ true → me.0.door ≡ d → me.1 ≡ (d, Some h) ∷ rest me.1 → Some (deed_of h) ≡ me.0.deed
      → Allows (Kept deed_of told_of n) slots id me (d + 2) (λ (x : ℕ). 0) (λ (x : ℕ). Leaves told_of me 0)

  -- the keeper exchanges 0 for 2 at a door that it hasn't taken
  abbrev pub TakeKept : Type 0
  TakeKept =
      (n slots id word : ℕ) (me : Me (Option H) (View D T)) (d : ℕ) → me.0.is_keeper ≡ true
      → me.0.is_pass ≡ false
      → d < length me.0.doors → taken_at me.0.doors d ≡ false → word ≡ d + 2
      → Allows (Kept deed_of told_of n) slots id me (d + 2) (λ (x : ℕ). either (x == 0) 2 x) (Takes deed_of word me)

  -- any step on the bell, which is word 0, or on the count of callers that have ended, which is
  -- word 1: it changes no view
  abbrev pub BellOrCountKept : Type 0
  BellOrCountKept = (n slots id i : ℕ) (f : ℕ → ℕ) (me : Me (Option H) (View D T)) → i < 2
      → Allows (Kept deed_of told_of n) slots id me i f (λ x after. after ≡ me)

  -- the keeper makes the pass of the next door
  abbrev pub SplitKept : Type 0
  SplitKept = (n id : ℕ) (v : View D T) → v.is_keeper ≡ true → v.is_pass ≡ false → v.made < length v.doors
      → Splits (Kept deed_of told_of n) id v (after_split v) (next_pass v)

  -- ---- what the rule says of a door

  -- a door's word is one of three
  abbrev pub WordIsOneOfThree : Type 0
  WordIsOneOfThree = (n : ℕ) (s : State (Option H) (View D T)) → Kept deed_of told_of n s → (c : ℕ) → c < n
      → (slice_index s.words (c + 2) ≡ 0) ⊎ ((slice_index s.words (c + 2) ≡ 1) ⊎ (slice_index s.words (c + 2) ≡ 2))

  -- it is 1 exactly where the door's pass is in
  abbrev pub OneWherePassIsIn : Type 0
  OneWherePassIsIn = (n : ℕ) (s : State (Option H) (View D T)) → Kept deed_of told_of n s → (c : ℕ) → c < n
      → (slice_index s.words (c + 2) ≡ 1)
      ↔ ((id : ℕ) × HasView s.views id (λ v. (v.is_pass ≡ true) × (v.door ≡ c) × (v.inside ≡ true)))

  -- it is 2 exactly where the keeper took the door
  abbrev pub TwoWhereTaken : Type 0
  TwoWhereTaken = (n : ℕ) (s : State (Option H) (View D T)) → Kept deed_of told_of n s → (c : ℕ) → c < n
      → (slice_index s.words (c + 2) ≡ 2)
      ↔ ((id : ℕ) × HasView s.views id (λ v. (v.is_keeper ≡ true) × (taken_at v.doors c ≡ true)))

  -- at 0 the door's hand lies in its slot: its deed is the one that the pass and the keeper know,
  -- and it was told what the pass knows
  abbrev pub HandAtHome : Type 0
  HandAtHome = (n : ℕ) (s : State (Option H) (View D T)) → Kept deed_of told_of n s → (c : ℕ) → c < n
      → slice_index s.words (c + 2) ≡ 0 → (h : H) × (get_elem? s.homes c ≡ some (some (Some h)))
      × ((id : ℕ) (v : View D T) → get_elem? s.views id ≡ some v → v.is_pass ≡ true → v.door ≡ c
      → (v.deed ≡ Some (deed_of h)) × (v.told ≡ told_of h))
      × ((id : ℕ) (v : View D T) → get_elem? s.views id ≡ some v → v.is_keeper ≡ true
      → deed_at v.doors c ≡ Some (deed_of h))

  -- ---- steps that break the rule

  -- the table can come to this state, in which the seat has this view, and word i is below 2^64
  pub record CanBe (n slots id i : ℕ) (me : Me (Option H) (View D T)) (s : State (Option H) (View D T)) : Type 0 where
    pub kept : Kept deed_of told_of n s
    pub many : length s.homes ≡ slots
    pub view : get_elem? s.views id ≡ some me.0
    pub small : slice_index s.words i < 18446744073709551616

  -- a pass that is in can't store 2 at its door
  abbrev pub NoneShutsItsDoor : Type 0
  NoneShutsItsDoor =
      (n slots id d : ℕ) (me : Me (Option H) (View D T)) (s : State (Option H) (View D T))
      → CanBe n slots id (d + 2) me s
      → d < n → me.0.is_pass ≡ true → me.0.is_keeper ≡ false → me.0.inside ≡ true → me.0.door ≡ d
      → Allows (Kept deed_of told_of n) slots id me (d + 2) (λ (x : ℕ). 2) (λ (x : ℕ). Leaves told_of me 2) → ⊥

  -- the keeper can't exchange 1 for 2 at a door whose pass is in
  abbrev pub NoneTakesFromInside : Type 0
  NoneTakesFromInside =
      (n slots id d : ℕ) (me : Me (Option H) (View D T)) (s : State (Option H) (View D T))
      → CanBe n slots id (d + 2) me s
      → d < n → taken_at me.0.doors d ≡ false → slice_index s.words (d + 2) ≡ 1
      → Allows (Kept deed_of told_of n) slots id me (d + 2) (λ (x : ℕ). either (x == 1) 2 x)
      (Takes deed_of (d + 2) me) → ⊥
