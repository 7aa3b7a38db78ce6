-- What each kind of step tells of the seat after it.
use Rattle.std.specs.Prelude.{◌≡◌, ℕ, ◌+◌, ◌==◌, List, ◌∷◌, Option, Some, MatchBool}
use Rattle.atomic_table.specs.Table.{Me, rest}
use Rattle.door_pool.specs.declared.view.View.{View}
use Rattle.door_pool.specs.Views.{deed_at, after_found, after_enter, after_leave, after_take}

module _ {H D T : Type 0} (deed_of : H → D) (told_of : H → List T) where
  -- an exchange of 0 for 1: the pass went in, and has the slot with its hand; or its door is taken
  abbrev pub Enters : Me (Option H) (View D T) → ℕ → Me (Option H) (View D T) → Type 0
  Enters m found after = MatchBool (found == 0)
      ((h : H) × (Some (deed_of h) ≡ m.0.deed) × (told_of h ≡ m.0.told)
      × (after ≡ (after_enter m.0, (m.0.door, Some h) ∷ m.1)))
      ((found ≡ 2) × (after ≡ (after_found m.0 2, m.1)))

module _ {H D T : Type 0} (told_of : H → List T) where
  -- a store of 0: the slot with the hand is at home again
  abbrev pub Leaves : Me (Option H) (View D T) → ℕ → Me (Option H) (View D T) → Type 0
  Leaves m found after =
      (h : H) × (m.1 ≡ (m.0.door, Some h) ∷ rest m.1)
      × (after ≡ (after_leave m.0 (told_of h), rest m.1))

module _ {H D T : Type 0} (deed_of : H → D) where
  -- an exchange of 0 for 2: the keeper took the door of this word, and has the slot with its hand; or the pass is in
  abbrev pub Takes : ℕ → Me (Option H) (View D T) → ℕ → Me (Option H) (View D T) → Type 0
  Takes word m found after = (c : ℕ) × (word ≡ c + 2) × MatchBool (found == 0)
      ((h : H) × (Some (deed_of h) ≡ deed_at m.0.doors c) × (after ≡ (after_take m.0 c, (c, Some h) ∷ m.1)))
      ((found ≡ 1) × (after ≡ (after_found m.0 1, m.1)))
