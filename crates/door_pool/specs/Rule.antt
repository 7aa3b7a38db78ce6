-- The rule of the doors, over the words, the slots and all views of a table.
use Rattle.std.specs.Prelude.{◌≡◌, ◌⊎◌, ℕ, ◌+◌, ◌<◌, Bool, true, false, if◌then◌else◌, List, [], length, slice_index, Option, Some}
use mathlib.Core.Option.{some, none}
use mathlib.Core.Option.{Option as Home}
use lib.ListN.{get_elem?}
use Rattle.atomic_table.specs.Table.{State}
use Rattle.door_pool.specs.declared.view.View.{View}
use Rattle.door_pool.specs.Views.{deed_at, taken_at}

-- the word of a door: 0 at home, 1 with its pass, 2 taken
abbrev pub word_of : Bool → Bool → ℕ
word_of inside taken = if taken then 2 else if inside then 1 else 0

-- the seat with this number is there, and P holds of its view
abbrev pub HasView : {V : Type 0} → List V → ℕ → (V → Type 0) → Type 0
HasView {V} views id P = (v : V) × (get_elem? views id ≡ some v) × P v

module _ {H D T : Type 0} (deed_of : H → D) (told_of : H → List T) where
  -- the slot of door c is at home, and holds a hand with this deed which was told these
  abbrev pub HoldsHand : List (Home (Option H)) → ℕ → Option D → List T → Type 0
  HoldsHand homes c d t =
      (h : H) × (get_elem? homes c ≡ some (some (Some h))) × (Some (deed_of h) ≡ d) × (told_of h ≡ t)

module _ {D T : Type 0} (n keeper made : ℕ) (holder : ℕ → ℕ) (deed : ℕ → Option D) (told : ℕ → List T)
    (inside taken : ℕ → Bool) where
  -- what a pass knows of its door is so, and what the keeper knows of all
  pub record Fits (id : ℕ) (v : View D T) : Type 0 where
    pub pass : v.is_pass ≡ true → (holder v.door ≡ id) × (v.door < n) × (v.door < made) × (v.deed ≡ deed v.door)
        × (v.told ≡ told v.door) × (v.inside ≡ inside v.door)
    pub keeper_is : v.is_keeper ≡ true → (keeper ≡ id) × (v.made ≡ made) × (length v.doors ≡ n)
        × ((c : ℕ) → c < n → (deed_at v.doors c ≡ deed c) × (taken_at v.doors c ≡ taken c))

-- The rule of n doors. There is: which seat is the keeper's, how many passes were made, and of each
-- door which seat has its pass, the deed of its hand, what the hand had been told that was left
-- last, whether the pass is in, and whether the keeper took the door.
pub record Kept {H D T : Type 0} (deed_of : H → D) (told_of : H → List T) (n : ℕ) (s : State (Option H) (View D T))
    : Type 0 where
  pub long : length s.words ≡ n + 2
  pub keeper : ℕ
  pub made : ℕ
  pub holder : ℕ → ℕ
  pub deed : ℕ → Option D
  pub told : ℕ → List T
  pub inside : ℕ → Bool
  pub taken : ℕ → Bool
  pub word : (c : ℕ) → c < n → slice_index s.words (c + 2) ≡ word_of (inside c) (taken c)
  -- no door is taken while its pass is in
  pub one : (c : ℕ) → inside c ≡ true → taken c ≡ false
  -- the hand lies behind its door
  pub at_home : (c : ℕ) → c < n → inside c ≡ false → taken c ≡ false
      → HoldsHand deed_of told_of s.homes c (deed c) (told c)
  -- or the slot is out with the pass or the keeper
  pub away : (c : ℕ) → c < n → (inside c ≡ true) ⊎ (taken c ≡ true) → get_elem? s.homes c ≡ some none
  -- a door without a pass was not entered
  pub later : (c : ℕ) → (c < made → ⊥) → (inside c ≡ false) × (told c ≡ [])
  -- the keeper and the passes that were made are there
  pub keeper_there : HasView s.views keeper (λ v. v.is_keeper ≡ true)
  pub passes_there : (c : ℕ) → c < made → HasView s.views (holder c) (λ v. (v.is_pass ≡ true) × (v.door ≡ c))
  pub fits : (id : ℕ) (v : View D T) → get_elem? s.views id ≡ some v
      → Fits n keeper made holder deed told inside taken id v
