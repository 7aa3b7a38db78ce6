-- What a merge step does to a writer.
use Rattle.std.specs.Prelude.{◌≡◌, ◌==◌, ℕ, ◌+◌, ◌≤◌, Bool, List, [], ◌∷◌, ◌++◌, Option, None, map, if◌then◌else◌}
use Rattle.std.specs.List.{list_any}
use Rattle.ix_base.specs.declared.document.Row.{Row}
use Rattle.ix_outside.specs.Files.{Files}
use Rattle.segment_core.specs.LiveRows.{Lived}
use Rattle.commit_point.specs.declared.written.Written.{Written}
use Rattle.merge_core.specs.declared.merge.Merge.{Merge}
use Rattle.flush_control.specs.Merging.{Turns}
use Rattle.flush_control.specs.declared.merging.MergeTurn.{MergeTurn}
use Rattle.flush_control.specs.declared.merging.MergeTurn.TheVariants.{Idle, Merged, Stepped}
use Rattle.index_writer.specs.declared.state.State.{State}
use Rattle.index_writer.specs.Ready.{HasRows, IsStored}

-- ---- what is on the store of the segments after a turn

-- the ids of the segments, in their order
abbrev pub ids_of : List Lived → List ℕ
ids_of gs = map (λ g. g.segment.id) gs

-- whether one of the segments has this id
abbrev pub is_there : List Lived → ℕ → Bool
is_there gs id = list_any (λ g. g.segment.id == id) gs

-- of what is on the store of segments with these ids, one for one, that of those which are still there
abbrev pub staying : List Lived → List ℕ → List (Option Written) → List (Option Written)
staying gs [] ws = []
staying gs (id ∷ ids) [] = []
staying gs (id ∷ ids) (w ∷ ws) = (if is_there gs id then w ∷ [] else []) ++ staying gs ids ws

-- What is on the store of the segments after a turn, where this was on the store of segments with these ids before.
-- Where the turn ended a merge, nothing is on the store of the merged segment, if one came.
abbrev pub followed : MergeTurn → List Lived → List ℕ → List (Option Written) → Bool → List (Option Written)
followed Idle gs ids ws came = ws
followed Stepped gs ids ws came = ws
followed Merged gs ids ws came = staying gs ids ws ++ (if came then None ∷ [] else [])

-- ---- a step

-- the state with this merge as the one that runs, or with none
abbrev pub with_merge : Option Merge → State → State
with_merge run s = record s { published = record s.published { merge = run } }

-- A merge step of so many rows: it does and answers what a merge turn does on the writer's segments, takes an id at
-- most, and keeps the rows. What is on the store of segments still stands there. All else is as it was.
pub record Merges (count : ℕ) (turn : MergeTurn) (old new : State) : Type 0 where
  pub turns : Turns old.merge count old.published turn new.published
  pub rows : (rows : List Row) → HasRows old rows → HasRows new rows
  pub stored : (files : Files) → IsStored files old → IsStored files new
  pub ids : old.published.next_id ≤ new.published.next_id
  pub few : new.published.next_id ≤ old.published.next_id + 1
  pub upto : new.published.upto ≡ old.published.upto
  pub last : new.last ≡ old.last
  pub since : new.since ≡ old.since
  pub buffer : new.buffer ≡ old.buffer
  pub merge : new.merge ≡ old.merge
  pub out : new.out ≡ old.out
  pub pending : new.pending ≡ old.pending
  pub closed : new.closed ≡ old.closed
