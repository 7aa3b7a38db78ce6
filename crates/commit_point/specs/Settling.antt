-- What every image has once a commit is acknowledged.
use Rattle.std.specs.Prelude.{◌≡◌, ℕ, List, Option, Some, IsSome}
use Rattle.ix_base.specs.declared.file_name.FileName.{FileName}
use Rattle.ix_outside.specs.Crash.{MayHold}
use Rattle.ix_outside.specs.Disk.{Disk, told_files}
use Rattle.ix_outside.specs.Files.{Files}
use Rattle.segment_core.specs.LiveRows.{Lived}
use Rattle.commit_point.specs.declared.written.Written.{Written}
use Rattle.commit_point.specs.Holds.{AreKept, IsFileOf}
use Rattle.commit_point.specs.Writing.{AreWritten, ComesAfter}

-- The files have all of the own ones, each as a file of a commit that is there.
abbrev pub AreOfCommits : Files → Files → Type 0
AreOfCommits files own =
    (name : FileName) → IsSome (own name) → ((t : ℕ) × IsFileOf files t name) × (files name ≡ own name)

-- The commit s settles: where each commit was kept before, and what was written of its segments stands in files of
-- commits that are there, each commit is kept, this one too.
abbrev pub Settles : ℕ → List Lived → List (Option Written) → Option Disk → Option Disk → Type 0
Settles s gs ws old new = (files now own : Files) → told_files old ≡ Some files → told_files new ≡ Some now
    → ComesAfter files s gs ws → AreWritten own s gs ws → AreOfCommits files own
    → AreKept files (MayHold old) → AreKept now (MayHold new)
