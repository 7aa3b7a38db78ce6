-- Merges: segments of an index are replaced by the one that they are merged into.
use Rattle.std.specs.Prelude.{◌≡◌, ◌⊎◌, ℕ, ◌+◌, ◌<◌, ◌≤◌, not, List, [], ◌∷◌, ◌++◌, Option, Some, None}
use Rattle.std.specs.List.{filter}
use Rattle.ix_base.specs.declared.document.Row.{Row}
use Rattle.segment_core.specs.LiveRows.{Lived}
use Rattle.merge_core.specs.Merging.{Sources, row_count}
use Rattle.merge_core.specs.Merging.{Merged as MergedInto}
use Rattle.merge_core.specs.Reading.{CanStart, HasRead, HasReadWithin}
use Rattle.merge_core.specs.declared.merge.Merge.{Merge}
use Rattle.merge_core.specs.Picking.{IsPick, HasNoPick, is_among}
use Rattle.flush_control.specs.Published.{IdsDiffer, IsPublished, StandsFor}
use Rattle.flush_control.specs.declared.merging.MergeTurn.{MergeTurn}
use Rattle.flush_control.specs.declared.merging.MergeTurn.TheVariants.{Idle, Merged, Stepped}
use Rattle.flush_control.specs.declared.published.Published.{Published}

-- ---- what is merged

-- The merge of the segments with these ids runs and has read so many rows of them; or none runs, nothing was read, and
-- these are the m segments with the fewest live rows.
abbrev pub Begun : ℕ → Published → List ℕ → List Lived → ℕ → Option Merge → Type 0
Begun m p ids sources count None = (count ≡ 0) × (picked : IsPick m p.segments ids) × (picked.sources ≡ sources)
Begun m p ids sources count (Some r) = (r.ids.items ≡ ids) × HasRead r sources count

-- a merge that is about to take a step: its sources, and how many of their rows it has read
pub record IsBegun (m : ℕ) (p : Published) (ids : List ℕ) : Type 0 where
  pub sources : List Lived
  pub found : Sources p.segments ids sources
  pub apart : IdsDiffer ids
  pub count : ℕ
  pub begun : Begun m p ids sources count p.merge

-- ---- what takes its place

-- the segments that have none of these ids
abbrev pub without : List ℕ → List Lived → List Lived
without ids segments = filter (λ s. not (is_among ids s)) segments

-- The segments with these ids are gone, and the one that they are merged into, if there is one, stands last.
abbrev pub replaced : List ℕ → Option Lived → Published → Published
replaced ids None p = record p { segments = without ids p.segments; merge = None }
replaced ids (Some s) p =
    record p { segments = without ids p.segments ++ s ∷ []; next_id = p.next_id + 1; merge = None }

-- The sources of a merge, which have these ids, were replaced by what they are merged into.
pub record IsEnd (old : Published) (ids : List ℕ) (sources : List Lived) (new : Published) : Type 0 where
  pub one : Option Lived
  pub merged : MergedInto sources old.next_id old.upto one
  pub is : new ≡ replaced ids one old

-- A merge that had read so many rows of its sources, which have these ids, has read so many more, and runs on with the
-- rows that are left.
pub record IsStepped (rows : ℕ) (old : Published) (ids : List ℕ) (sources : List Lived) (count : ℕ) (new : Published) : Type 0 where
  pub run : Merge
  pub same : run.ids.items ≡ ids
  pub read : HasRead run sources (count + rows)
  pub left : count + rows < row_count sources
  pub is : new ≡ record old { merge = Some run }

-- ---- a turn

-- A merge that ran, or was begun, read all the rows that were left, so many at most, and ended.
pub record Merges (m rows : ℕ) (old new : Published) : Type 0 where
  pub ids : List ℕ
  pub begun : IsBegun m old ids
  pub all : row_count begun.sources ≤ begun.count + rows
  pub end : IsEnd old ids begun.sources new

-- A merge that ran, or was begun, runs on.
pub record Steps (m rows : ℕ) (old new : Published) : Type 0 where
  pub ids : List ℕ
  pub begun : IsBegun m old ids
  pub step : IsStepped rows old ids begun.sources begun.count new

-- what a turn did
abbrev pub Turns : ℕ → ℕ → Published → MergeTurn → Published → Type 0
Turns m rows old Idle new = (old.merge ≡ None) × HasNoPick m old.segments × (new ≡ old)
Turns m rows old Stepped new = Steps m rows old new
Turns m rows old Merged new = Merges m rows old new

-- ---- the parts of a turn

-- a merge of the segments that are picked can be started
abbrev pub PicksStart : ℕ → List Lived → Type 0
PicksStart m segments = (ids : List ℕ) → IsPick m segments ids → CanStart segments ids

-- A merge was begun: it has the ids that are picked, and has read no row of the segments.
pub record IsBegunBy (m : ℕ) (segments : List Lived) (run : Merge) : Type 0 where
  pub picked : IsPick m segments run.ids.items
  pub read : (sources : List Lived) → Sources segments run.ids.items sources → HasRead run sources 0

-- The merge is the one that ran, or was begun.
abbrev pub IsTaken : ℕ → Published → Merge → Type 0
IsTaken m p run = (p.merge ≡ Some run) ⊎ ((p.merge ≡ None) × IsBegunBy m p.segments run)

-- The merge's sources are among the segments, and it has read so many rows of them.
pub record Runs (p : Published) (run : Merge) (sources : List Lived) (count : ℕ) : Type 0 where
  pub found : Sources p.segments run.ids.items sources
  pub apart : IdsDiffer run.ids.items
  pub read : HasRead run sources count

-- what a turn does with a merge that was taken out
abbrev pub Advanced : ℕ → Published → Merge → List Lived → ℕ → MergeTurn → Published → Type 0
Advanced rows old was sources count Idle new = ⊥
Advanced rows old was sources count Stepped new = IsStepped rows old was.ids.items sources count new
Advanced rows old was sources count Merged new =
    (row_count sources ≤ count + rows) × IsEnd old was.ids.items sources new

-- ---- after an error

-- The segments are as before, and can be listed.
pub record SameSegments (old new : Published) : Type 0 where
  pub segments : new.segments ≡ old.segments
  pub next_id : new.next_id ≡ old.next_id
  pub upto : new.upto ≡ old.upto
  pub published : IsPublished new

-- The merge still runs, and has read so many rows more at most.
pub record StillRuns (rows : ℕ) (old : Published) (was : Merge) (new : Published) : Type 0 where
  pub run : Merge
  pub is : new.merge ≡ Some run
  pub same : run.ids.items ≡ was.ids.items
  pub read : (sources : List Lived) (count : ℕ) → Runs old was sources count
      → HasReadWithin run sources count (count + rows)

-- ---- what stays

-- After a merge the segments can be listed again, and stand for the same rows. It takes an id at most.
pub record EndsMerge (old new : Published) : Type 0 where
  pub published : IsPublished new
  pub upto : new.upto ≡ old.upto
  pub ids : old.next_id ≤ new.next_id
  pub few : new.next_id ≤ old.next_id + 1
  pub rows : (rows : List Row) → StandsFor old rows → StandsFor new rows

-- Merges keep what segments stand for.
abbrev pub MergesStand : Type 0
MergesStand =
    (m rows : ℕ) (turn : MergeTurn) (old new : Published) → IsPublished old
    → Turns m rows old turn new → EndsMerge old new
