-- What passes and the keeper know, and what each kind of step makes of it.
use Rattle.std.specs.Prelude.{ℕ, zero, suc, ◌+◌, Bool, true, false, List, [], ◌∷◌, map, Option, Some, None}
use Rattle.door_pool.specs.declared.view.View.{View}
use Rattle.door_pool.specs.declared.view.DoorSeen.{DoorSeen}

-- ---- what the keeper knows of the doors

module _ {D : Type 0} where
  abbrev pub door_seen : Option D → Bool → DoorSeen D
  door_seen d t = record { deed = d; taken = t }

  -- the deed of the hand of door c; none where there is no such door
  abbrev pub deed_at : List (DoorSeen D) → ℕ → Option D
  deed_at [] c = None
  deed_at (x ∷ xs) zero = x.deed
  deed_at (x ∷ xs) (suc c) = deed_at xs c

  -- whether the keeper took door c
  abbrev pub taken_at : List (DoorSeen D) → ℕ → Bool
  taken_at [] c = false
  taken_at (x ∷ xs) zero = x.taken
  taken_at (x ∷ xs) (suc c) = taken_at xs c

  -- the same doors, with door c taken
  abbrev pub with_taken : List (DoorSeen D) → ℕ → List (DoorSeen D)
  with_taken [] c = []
  with_taken (x ∷ xs) zero = door_seen x.deed true ∷ xs
  with_taken (x ∷ xs) (suc c) = x ∷ with_taken xs c

module _ {H D : Type 0} (deed_of : H → D) where
  -- doors behind which these hands lie, of which none is taken
  abbrev pub doors_of : List H → List (DoorSeen D)
  doors_of hands = map (λ (h : H). door_seen (Some (deed_of h)) false) hands

  abbrev pub deed_in : Option H → Option D
  deed_in None = None
  deed_in (Some h) = Some (deed_of h)

  -- the doors of a table with these slots
  abbrev pub doors_in : List (Option H) → List (DoorSeen D)
  doors_in [] = []
  doors_in (x ∷ xs) = door_seen (deed_in x) false ∷ doors_in xs

-- ---- views

module _ {D T : Type 0} where
  -- a new pass of door c, whose hand has this deed and was told nothing
  abbrev pub new_pass : ℕ → Option D → View D T
  new_pass c d = record {
    is_pass = true;
    door = c;
    deed = d;
    told = [];
    inside = false;
    is_keeper = false;
    doors = [];
    made = 0;
    found = 0;
    tries = 0;
  }

  -- the keeper of these doors, before any pass was made
  abbrev pub keeper_with : List (DoorSeen D) → View D T
  keeper_with doors = record {
    is_pass = false;
    door = 0;
    deed = None;
    told = [];
    inside = false;
    is_keeper = true;
    doors = doors;
    made = 0;
    found = 0;
    tries = 0;
  }

  -- after a try at a door that found this word, and changed nothing
  abbrev pub after_found : View D T → ℕ → View D T
  after_found v word = record v { found = word; tries = v.tries + 1 }

  -- after the pass went in
  abbrev pub after_enter : View D T → View D T
  after_enter v = record v { inside = true; found = 0; tries = v.tries + 1 }

  -- after the pass went out, and left a hand that was told these
  abbrev pub after_leave : View D T → List T → View D T
  after_leave v told = record v { inside = false; told = told }

  -- after the keeper took door c
  abbrev pub after_take : View D T → ℕ → View D T
  after_take v c = record v { doors = with_taken v.doors c; found = 0; tries = v.tries + 1 }

  -- after the keeper made the next pass, and that pass
  abbrev pub after_split : View D T → View D T
  after_split v = record v { made = v.made + 1 }

  abbrev pub next_pass : View D T → View D T
  next_pass v = new_pass v.made (deed_at v.doors v.made)

-- the keeper of a new table with these slots
abbrev pub keeper_of : {H D T : Type 0} (deed_of : H → D) → List (Option H) → View D T
keeper_of deed_of slots = keeper_with (doors_in deed_of slots)
