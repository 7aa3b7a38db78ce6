-- When a writer can go on, and which rows it has.
use Rattle.std.specs.Prelude.{◌≡◌, ℕ, ◌<◌, ◌≤◌, ◌^◌, List, [], ◌∷◌, Option, Some, None, IfSome, length, false}
use Rattle.std.specs.List.{AllByRecursion}
use Rattle.ix_base.specs.declared.document.Row.{Row}
use Rattle.ix_outside.specs.Files.{Files}
use Rattle.segment_core.specs.LiveRows.{Lived}
use Rattle.commit_point.specs.declared.heads.HeadSegment.{HeadSegment}
use Rattle.commit_point.specs.declared.open.Opened.{Opened}
use Rattle.commit_point.specs.declared.written.Written.{Written}
use Rattle.commit_point.specs.Writing.{AreWritten, CanCommit, WrittenUpTo}
use Rattle.flush_control.specs.Published.{IsPublished, StandsFor}
use Rattle.index_writer.specs.declared.state.State.{State}

-- ---- a commit that was read

-- what is on the store of the segments of a commit: their live docs, as they were written last
abbrev pub written_of : List HeadSegment → List Lived → List (Option Written)
written_of [] gs = []
written_of (e ∷ es) [] = []
written_of (e ∷ es) (g ∷ gs) = Some (record { v = e.written; live = g.live }) ∷ written_of es gs

-- The commit can be followed by another one: its segments could be written again as they are, and its entries name
-- them, one by one.
pub record CanFollow (last : Opened) : Type 0 where
  pub some_id : 1 ≤ last.next_id
  pub room : last.next_id < 2 ^ 63
  pub count : length last.entries ≡ length last.segments
  pub can : CanCommit last.number last.next_id last.segments (written_of last.entries last.segments)

-- ---- the writer

-- a segment that is new since the last commit, of which nothing is on the store, has an id from this one on
abbrev pub NewIdsFrom : ℕ → List Lived → List (Option Written) → Type 0
NewIdsFrom since [] ws = Unit {0}
NewIdsFrom since (g ∷ gs) [] = Unit {0}
NewIdsFrom since (g ∷ gs) (None ∷ ws) = (since ≤ g.segment.id) × NewIdsFrom since gs ws
NewIdsFrom since (g ∷ gs) (Some w ∷ ws) = NewIdsFrom since gs ws

-- The number of a commit that is still to be written is that of the last operation, and above the last commit's.
abbrev pub CanBePending : State → ℕ → Type 0
CanBePending s n = (n ≡ s.published.upto) × (s.last < n)

-- The writer can go on: its segments can be listed again, and of each is known what is on the store of it.
pub record IsReady (s : State) : Type 0 where
  pub published : IsPublished s.published
  pub count : length s.written ≡ length s.published.segments
  pub written : AllByRecursion (WrittenUpTo s.published.upto) s.written
  pub new_ids : NewIdsFrom s.since s.published.segments s.written
  pub since : s.since ≤ s.published.next_id
  pub last : s.last ≤ s.published.upto
  pub pending : IfSome s.pending (CanBePending s)
  pub some : 1 ≤ s.buffer
  pub most : s.buffer ≤ 65536
  pub several : 2 ≤ s.merge
  pub within : s.merge ≤ 64

-- the state of a writer on a commit, with nothing since, and no merge that runs
abbrev pub opened_on : Opened → ℕ → ℕ → State
opened_on last size merge = record {
  published = record { segments = last.segments; next_id = last.next_id; upto = last.number; merge = None; gone = tt };
  written = written_of last.entries last.segments;
  last = last.number;
  since = last.next_id;
  buffer = size;
  merge = merge;
  out = false;
  pending = None;
  closed = false;
}

-- the writer can go on, unless it is closed
abbrev pub IsSound : State → Type 0
IsSound s = s.closed ≡ false → IsReady s

-- what is on the store of the writer's segments stands in the files
abbrev pub IsStored : Files → State → Type 0
IsStored files s = AreWritten files s.published.upto s.published.segments s.written

-- the writer's segments have these rows, by birth
abbrev pub HasRows : State → List Row → Type 0
HasRows s rows = StandsFor s.published rows
