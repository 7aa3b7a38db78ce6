-- What contracts say of passes and of the keeper.
use Rattle.std.specs.Prelude.{◌≡◌, ℕ, ◌+◌, ◌<◌, ◌≤◌, true, false, List, [], ◌∷◌, length, Option, Some, None}
use Rattle.atomic_table.specs.Seated.{TableId}
use Rattle.atomic_table.specs.declared.shared.Seat.{Seat}
use mathlib.Core.Option.{some}
use lib.ListN.{get_elem?}
use Rattle.door_pool.specs.declared.view.View.{View}
use Rattle.door_pool.specs.declared.view.DoorSeen.{DoorSeen}
use Rattle.door_pool.specs.declared.doors.Doors.{Doors}
use Rattle.door_pool.specs.declared.doors.Pass.{Pass}
use Rattle.door_pool.specs.declared.doors.Keeper.{Keeper}
use Rattle.door_pool.specs.Views.{deed_at, taken_at}
use Rattle.door_pool.specs.declared.passing.Enter.{Enter}
use Rattle.door_pool.specs.declared.passing.Enter.TheVariants.{In, Shut}
use Rattle.door_pool.specs.declared.keeping.Take.{Take}
use Rattle.door_pool.specs.declared.keeping.Take.TheVariants.{Out, Busy}

-- the seat has the pass of door d
pub record IsPassSeat {H D T : Type 0} (t : TableId) (d : ℕ) (s : Seat (Option H) (View D T)) : Type 0 where
  pub table : s.table_id ≡ t
  pub words : d + 2 < t.words
  pub few : d < 16
  pub is_pass : s.me.0.is_pass ≡ true
  pub no_keeper : s.me.0.is_keeper ≡ false
  pub door : s.me.0.door ≡ d

-- and while it is in, the door's empty slot is out with it
pub record IsPassAt {H D T : Type 0} (t : TableId) (d : ℕ) (s : Seat (Option H) (View D T)) : Type 0 where
  pub seat : IsPassSeat t d s
  pub out : s.me.0.inside ≡ false → s.me.1 ≡ []
  pub inn : s.me.0.inside ≡ true → s.me.1 ≡ (d, None) ∷ []

-- the pass is in, and the slot that is out with it holds this hand, which has the deed of its door
pub record IsLadenPass {H D T : Type 0} (deed_of : H → D) (t : TableId) (p : Pass H D T) (hand : H) : Type 0 where
  pub seat : IsPassSeat t p.door p.seat
  pub inside : p.seat.me.0.inside ≡ true
  pub slot : p.seat.me.1 ≡ (p.door, Some hand) ∷ []
  pub deed : Some (deed_of hand) ≡ p.seat.me.0.deed

-- the seat is the keeper's
pub record IsKeeperAt {H D T : Type 0} (t : TableId) (s : Seat (Option H) (View D T)) : Type 0 where
  pub table : s.table_id ≡ t
  pub words : t.words ≡ length s.me.0.doors + 2
  pub few : length s.me.0.doors ≤ 16
  pub is_keeper : s.me.0.is_keeper ≡ true
  pub no_pass : s.me.0.is_pass ≡ false

module _ {H D T : Type 0} where
  -- what a pass knows, and what the keeper knows
  abbrev pub view_of : Pass H D T → View D T
  view_of p = p.seat.me.0

  abbrev pub keeper_view : Keeper H D T → View D T
  keeper_view k = k.seat.me.0

  -- the doors, as the keeper knows them
  abbrev pub known_doors : Keeper H D T → List (DoorSeen D)
  known_doors k = (keeper_view k).doors

  -- the table of these doors
  abbrev pub table_of : Doors H D T → TableId
  table_of doors = doors.table.shared.table_id

  -- it is a pass, or the keeper, of these doors
  abbrev pub IsPassOf : Doors H D T → Pass H D T → Type 0
  IsPassOf doors p = IsPassAt (table_of doors) p.door p.seat

  abbrev pub IsKeeperOf : Doors H D T → Keeper H D T → Type 0
  IsKeeperOf doors k = IsKeeperAt (table_of doors) k.seat

-- ---- answers

module _ {H : Type 0} where
  abbrev pub IfIn : Enter H → (H → Type 0) → Type 0
  IfIn (In hand) P = P hand
  IfIn (Shut word) P = Unit {0}

  abbrev pub IfShut : Enter H → (ℕ → Type 0) → Type 0
  IfShut (In hand) P = Unit {0}
  IfShut (Shut word) P = P word

  abbrev pub IfOut : Take H → (H → Type 0) → Type 0
  IfOut (Out hand) P = P hand
  IfOut (Busy word) P = Unit {0}

  abbrev pub IfBusy : Take H → (ℕ → Type 0) → Type 0
  IfBusy (Out hand) P = Unit {0}
  IfBusy (Busy word) P = P word

-- ---- new doors

-- each slot has a hand that was told nothing
abbrev pub AreFresh : {H T : Type 0} → (H → List T) → List (Option H) → Type 0
AreFresh told_of [] = Unit {0}
AreFresh told_of (None ∷ xs) = ⊥
AreFresh told_of (Some h ∷ xs) = (told_of h ≡ []) × AreFresh told_of xs

-- a pass of door c that is out, whose hand has this deed and was told nothing
pub record IsNewPass {H D T : Type 0} (t : TableId) (c : ℕ) (deed : Option D) (p : Pass H D T) : Type 0 where
  pub pass : IsPassAt t p.door p.seat
  pub door : (view_of p).door ≡ c
  pub deed_is : (view_of p).deed ≡ deed
  pub told : (view_of p).told ≡ []
  pub outside : (view_of p).inside ≡ false

-- new passes of doors with these deeds, one after another
abbrev pub ArePassesAt : {H D T : Type 0} → TableId → List (DoorSeen D) → List (Pass H D T) → Type 0
ArePassesAt {H} {D} {T} t doors passes =
    (c : ℕ) (p : Pass H D T) → get_elem? passes c ≡ some p → IsNewPass t c (deed_at doors c) p

-- new passes of these doors, one after another, which know the deeds that the keeper knows
abbrev pub AreNewPasses : {H D T : Type 0} → Doors H D T → Keeper H D T → List (Pass H D T) → Type 0
AreNewPasses doors keeper passes = ArePassesAt (table_of doors) (known_doors keeper) passes

-- no door is taken
abbrev pub NoneTaken : {D : Type 0} → List (DoorSeen D) → Type 0
NoneTaken doors = (c : ℕ) → taken_at doors c ≡ false
