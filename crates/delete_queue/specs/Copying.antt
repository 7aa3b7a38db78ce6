-- Copying the list into the room of a log.
use Rattle.std.specs.Prelude.{◌≡◌, ℕ, ◌+◌, ◌*◌, ◌≤◌, List, ◌++◌, map, length, vec_capacity}
use mathlib.Core.Option.{some}
use lib.ListN.{get_elem?}
use Rattle.queue_rule.specs.Lists.{last_or}
use Rattle.queue_rule.specs.Chain.{ChainEntry}
use Rattle.queue_rule.specs.Told.{Whole}
use Rattle.delete_queue.specs.declared.seat.Seat.{Seat}
use Rattle.delete_queue.specs.declared.copy.Room.{Room}
use Rattle.delete_queue.specs.Seats.{the_view, Knows}
use Rattle.delete_queue.specs.Cuts.{pieces_from, IsCut}

-- the words of the entries copied, in order
abbrev pub copied_of : Room → List (List ℕ)
copied_of room = pieces_from 0 room.ends.items room.words.items

-- there is room for all that the table of a queue with k seats can hold
pub record HasSpace (room : Room) (k : ℕ) : Type 0 where
  pub ends : 8321 * k ≤ vec_capacity room.ends
  pub words : 16642 * k ≤ vec_capacity room.words

-- the words of the entry at this place, which the seat knows, were added
abbrev pub Adds : Seat → ℕ → List ℕ → List ℕ → Type 0
Adds s place before after = (words : List ℕ) × (after ≡ before ++ words) × Knows s place words

-- the first n entries of the list were copied; the seat knows their words
pub record Copied (s : Seat) (n : ℕ) (room : Room) : Type 0 where
  pub count : length room.ends.items ≡ n
  pub cut : IsCut room.ends.items (length room.words.items)
  pub ended : last_or 0 room.ends.items ≡ length room.words.items
  pub knows : (i : ℕ) (words : List ℕ) → get_elem? (copied_of room) i ≡ some words → Knows s (i + 1) words

-- all entries were copied: these are all that the list has
pub record CopiedAll (s : Seat) (room : Room) : Type 0 where
  pub cut : IsCut room.ends.items (length room.words.items)
  pub few : length room.ends.items ≤ 8321 * 32
  pub whole : Whole (the_view s)
  pub words : copied_of room ≡ map (λ (e : ChainEntry). e.words) whole.entries
