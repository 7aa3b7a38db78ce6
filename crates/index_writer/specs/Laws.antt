-- What follows for the files once a writer committed, and where it can begin.
use Rattle.std.specs.Prelude.{◌≡◌, ◌⊎◌, ℕ, ◌<◌, List, None}
use Rattle.ix_base.specs.declared.document.Row.{Row}
use Rattle.ix_base.specs.declared.file_name.FileName.TheVariants.{Commit}
use Rattle.ix_outside.specs.Files.{Files}
use Rattle.commit_point.specs.declared.heads.HeadSegment.{HeadSegment}
use Rattle.commit_point.specs.declared.open.Opened.{Opened}
use Rattle.commit_point.specs.Holds.{HasPairs, HasSegments, HaveSegments, HoldsInverted, Lists, Pairs}
use Rattle.index_writer.specs.declared.state.State.{State}
use Rattle.index_writer.specs.Ready.{CanFollow, HasRows, IsReady, IsStored, opened_on}
use Rattle.index_writer.specs.Storing.{Commits, GoesOn, MayCommit, on_commit}

-- A writer that committed can go on from the files.
abbrev pub CommitsGoOn : Type 0
CommitsGoOn = (pairs : Pairs) (old new : State) (files now : Files) → IsReady old
    → new ≡ on_commit old → Commits pairs old new files now → GoesOn files old
    → GoesOn now new

-- The files of a commit hold the rows that its writer had, and its pairs.
abbrev pub CommitsHold : Type 0
CommitsHold = (pairs : Pairs) (old new : State) (files now : Files) (rows : List Row)
    → Commits pairs old new files now → IsStored files old → HasRows old rows
    → HoldsInverted now old.published.upto old.published.next_id rows
    × HasPairs now old.published.upto pairs

-- A crash meanwhile leaves the commit file as it was, or they hold them.
abbrev pub CrashesHold : Type 0
CrashesHold = (pairs : Pairs) (s : State) (files now : Files) (rows : List Row)
    → MayCommit pairs s files now → IsStored files s → HasRows s rows
    → (now (Commit s.published.upto) ≡ files (Commit s.published.upto))
    ⊎ (HoldsInverted now s.published.upto s.published.next_id rows
    × HasPairs now s.published.upto pairs)

-- the files spell this commit, none is above it, and no commit lists an id from its next one on
pub record IsLastOf (files : Files) (last : Opened) : Type 0 where
  pub spelled : HasSegments files last.number last.next_id last.entries last.segments
  pub none_above : (t : ℕ) → last.number < t → files (Commit t) ≡ None
  pub ids : (t : ℕ) (e : HeadSegment) → Lists files t e → e.id < last.next_id

-- A writer can begin on a commit that files spell, and where that is the last one, it can go on
-- from the files. Where they spell the commit's segments, what is on the store of the writer's
-- stands in them.
pub record CanBegin (files : Files) (last : Opened) : Type 0 where
  pub follows : HasSegments files last.number last.next_id last.entries last.segments → CanFollow last
  pub stored : (size merge : ℕ) → HaveSegments files last.number last.entries last.segments
      → IsStored files (opened_on last size merge)
  pub goes_on : (size merge : ℕ) → IsLastOf files last → GoesOn files (opened_on last size merge)

abbrev pub OpenedGoOn : Type 0
OpenedGoOn = (files : Files) (last : Opened) → CanBegin files last
