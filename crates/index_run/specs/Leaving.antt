-- What a run leaves on the disk, round after round.
use Rattle.std.specs.Prelude.{◌≡◌, ◌⊎◌, ℕ, ◌+◌, ◌*◌, ◌<◌, ◌≤◌, List, [], ◌∷◌, ◌++◌, length, take, Option, Some, IsSome}
use Rattle.std.specs.List.{AllByRecursion}
use Rattle.ix_base.specs.declared.document.Row.{Row}
use Rattle.ix_base.specs.declared.file_name.FileName.{FileName}
use Rattle.ix_base.specs.declared.file_name.FileName.TheVariants.{Commit, Pending, Rows, Posts, Live, Values}
use Rattle.ix_outside.specs.Calls.{LeavesOnly}
use Rattle.ix_outside.specs.Crash.{MayHold}
use Rattle.ix_outside.specs.Disk.{Disk, Told, told_files}
use Rattle.ix_outside.specs.Files.{Files, Changes}
use Rattle.ix_outside.specs.Images.{Follows, Reaches}
use Rattle.segment_core.specs.LiveRows.{Lived}
use Rattle.commit_point.specs.declared.heads.HeadSegment.{HeadSegment}
use Rattle.commit_point.specs.Holds.{AreKept, HasPairs, HasSegments, HoldsInverted, IsAboveIds, Pairs}
use Rattle.commit_point.specs.Steps.{KeepsMade, OnlyCommits}
use Rattle.op_script.specs.declared.script.Line.{Line}
use Rattle.index_writer.specs.declared.state.State.{State}
use Rattle.index_writer.specs.Laws.{CommitsGoOn, CommitsHold}
use Rattle.index_writer.specs.Ready.{HasRows, IsStored}
use Rattle.index_writer.specs.Standing.{CommitsStand, StandsOnLast}
use Rattle.index_writer.specs.Storing.{GoesOn}
use Rattle.run_log.specs.Headline.{Given, IsIn, KeepsSegments, commit_numbers, pairs_at, rows_at}

-- ---- files that have the same last commit

-- What is on the store of the writer's segments is of the last commit: it stands in all files that keep its segments.
abbrev pub IsOfLast : Given → State → Type 0
IsOfLast g w = (d : Files) → KeepsSegments g.base g.files d → IsStored d w

-- ---- files that a run doesn't write

-- The file isn't one of those that a run may write which began after the commit `last`, with ids
-- from `since` on: commit files above that commit, rows and postings of new segments, live bits and
-- set numbers written above it.
abbrev pub IsBefore : ℕ → ℕ → FileName → Type 0
IsBefore last since (Commit t) = t ≤ last
IsBefore last since (Pending t) = t ≤ last
IsBefore last since (Rows id) = id < since
IsBefore last since (Posts id) = id < since
IsBefore last since (Live id v) = v ≤ last
IsBefore last since (Values id v) = v ≤ last

-- every other file is as it was, whatever the files have
abbrev pub SameBefore : State → Files → Files → Type 0
SameBefore first old new = (name : FileName) → IsBefore first.last first.since name → new name ≡ old name

-- The laws of the writer's commits: it can go on from the files of one, and they hold the rows that it had.
pub record CommitLaws : Type 0 where
  pub go_on : CommitsGoOn
  pub hold : CommitsHold
  pub stand : CommitsStand

-- ---- the commits of a log

-- The commit s was made, in a run that began with `first` on the files `old`. Its next id is in range and, where the
-- writer could go on from those files, above each id that a commit below it lists. It has the rows by the log's
-- operations up to s, over those of `first`, and the pairs of the operation s.
pub record IsMade (first : State) (log : List Line) (limit : ℕ) (old new : Files) (s : ℕ) : Type 0 where
  pub id : ℕ
  pub entries : List HeadSegment
  pub segments : List Lived
  pub from_next : first.published.next_id ≤ id
  pub to_limit : id ≤ limit
  pub inside : s ≤ first.published.upto + length log
  pub spelled : HasSegments new s id entries segments
  pub above : GoesOn old first → IsAboveIds new s id
  pub rows : (rows : List Row) → HasRows first rows
      → HoldsInverted new s id (rows_at first.published.upto rows log s)
  pub pairs : HasPairs new s (pairs_at first.published.upto log s)

-- These commits were made, and no other. What an older commit was it is.
pub record AreMade (first : State) (log : List Line) (numbers : List ℕ) (limit : ℕ) (old new : Files) : Type 0 where
  pub each : AllByRecursion (IsMade first log limit old new) numbers
  pub only : (s : ℕ) → IsSome (new (Commit s)) → IsSome (old (Commit s)) ⊎ IsIn numbers s
  pub older : (s n : ℕ) (entries : List HeadSegment) (segments : List Lived) → s ≤ first.published.upto
      → n ≤ first.published.next_id → HasSegments old s n entries segments → HasSegments new s n entries segments

-- These commits were made where what is on the store of the first writer's segments stood before. Files that the run
-- doesn't write are as they were.
pub record HasFront (first : State) (log : List Line) (numbers : List ℕ) (limit : ℕ) (old new : Files) : Type 0 where
  pub made : IsStored old first → AreMade first log numbers limit old new
  pub before : SameBefore first old new

-- The same, and what is on the store of the writer's segments stands now, in files of its last commit where it did so
-- before; the writer can go on.
pub record Stands (first : State) (log : List Line) (numbers : List ℕ) (w : State) (old new : Files) : Type 0 where
  pub front : HasFront first log numbers w.since old new
  pub stored : IsStored old first → IsStored new w
  pub goes_on : GoesOn old first → GoesOn new w
  pub on_last : GoesOn old first → StandsOnLast old first → StandsOnLast new w

-- the pairs of the log's line with the writer's number
abbrev pub due_pairs : State → List Line → State → Pairs
due_pairs first log w = pairs_at first.published.upto log w.published.upto

-- the numbers of the commits among the log's first lines
abbrev pub first_numbers : State → List Line → ℕ → List ℕ
first_numbers first log count = commit_numbers first.published.upto (take count log)

-- the log has one commit after those of its first lines, and its number is this one
abbrev pub IsNextCommit : State → List Line → ℕ → ℕ → Type 0
IsNextCommit first log count s =
    commit_numbers first.published.upto log ≡ first_numbers first log count ++ s ∷ []

-- the commits of the log's first lines were made, up to some line
abbrev pub HasSomeFront : State → List Line → Files → Files → Type 0
HasSomeFront first log old new = (count : ℕ) × (count ≤ length log)
    × HasFront first log (first_numbers first log count) (first.published.next_id + 2 * length log) old new

-- ---- the disk

-- What a run has left on the disk that began on the disk `start` with `first`: its writer is `w`, and of its log the
-- commits of the first `count` lines were written. The files and each image have these, and a crash at any moment
-- left the first ones. Where each commit was kept at the beginning, each is kept now. Each step was
-- one by which commits are made, and no commit that stood at some moment lost its files or bytes.
pub record IsDiskAfter (first : State) (log : List Line) (count : ℕ) (w : State) (start now : Option Disk)
    : Type 0 where
  pub low : first.published.next_id ≤ w.since
  pub high : w.since ≤ first.published.next_id + 2 * length log
  pub files : Changes (Stands first log (first_numbers first log count) w) (told_files start) (told_files now)
  pub images : Follows (Stands first log (first_numbers first log count) w) (MayHold start) (MayHold now)
  pub crash : LeavesOnly start now (Reaches (HasSomeFront first log) (MayHold start))
  pub only : Told OnlyCommits start now
  pub standing : (was : Files) → told_files start ≡ Some was → GoesOn was first → Told KeepsMade start now
  pub settled : (was is : Files) → told_files start ≡ Some was → told_files now ≡ Some is → GoesOn was first
      → StandsOnLast was first → AreKept was (MayHold start) → AreKept is (MayHold now)
