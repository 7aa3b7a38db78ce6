-- By which steps a store changes while commits are made.
use Rattle.std.specs.Prelude.{◌≡◌, List, [], ◌∷◌, ◌++◌, ⊤}
use Rattle.ix_base.specs.declared.file_name.FileName.{FileName}
use Rattle.ix_base.specs.declared.file_name.FileName.TheVariants.{Commit, Pending, Rows, Posts, Live, Values}
use Rattle.ix_outside.specs.Disk.{Disk, files}
use Rattle.ix_outside.specs.declared.step.Step.{Step}
use Rattle.ix_outside.specs.declared.step.Step.TheVariants.{Wrote, Synced, Renamed, Deleted, Settled, Spoilt, HalfRenamed, HalfDeleted}
use Rattle.commit_point.specs.Holds.{KeepsCommits}

-- ---- one step

-- the file isn't the commit file of any commit
abbrev pub IsNoCommit : FileName → Type 0
IsNoCommit (Commit s) = ⊥
IsNoCommit (Pending s) = ⊤
IsNoCommit (Rows id) = ⊤
IsNoCommit (Posts id) = ⊤
IsNoCommit (Live id v) = ⊤
IsNoCommit (Values id v) = ⊤

-- a pending commit file, and the commit file of the same number
abbrev pub IsPublished : FileName → FileName → Type 0
IsPublished (Pending s) (Commit t) = s ≡ t
IsPublished «from» to = ⊥

-- A step by which a commit is made, or a part of one that failed: no commit file is written, a
-- pending one is renamed to that of its number, files are synced, and the directory. Nothing is
-- deleted.
abbrev pub MakesCommits : Step → Type 0
MakesCommits (Wrote name bytes) = IsNoCommit name
MakesCommits (Spoilt name found) = IsNoCommit name
MakesCommits (Synced name) = ⊤
MakesCommits (Renamed «from» to) = IsPublished «from» to
MakesCommits (HalfRenamed «from» to) = IsPublished «from» to
MakesCommits (Deleted name) = ⊥
MakesCommits (HalfDeleted name) = ⊥
MakesCommits Settled = ⊤

-- Each commit that stands before the step stands after it, with its files and bytes.
abbrev pub KeepsStanding : Step → Disk → Type 0
KeepsStanding step older = KeepsCommits (files older) (files (step ∷ older))

-- ---- the steps of calls

-- each of these steps, the newest first, is such a one on the disk that it was taken on
abbrev pub AreSteps : (Step → Disk → Type 0) → List Step → Disk → Type 0
AreSteps Is [] old = ⊤
AreSteps Is (step ∷ further) old = Is step (further ++ old) × AreSteps Is further old

-- the new disk is the old one after such steps
pub record GoesBy (Is : Step → Disk → Type 0) (old new : Disk) : Type 0 where
  pub further : List Step
  pub is : new ≡ further ++ old
  pub each : AreSteps Is further old

-- each step of the calls is one by which commits are made
abbrev pub OnlyCommits : Disk → Disk → Type 0
OnlyCommits = GoesBy (λ step older. MakesCommits step)

-- A commit that stands at some moment of the calls stands from then on, with its files and bytes.
abbrev pub KeepsMade : Disk → Disk → Type 0
KeepsMade = GoesBy KeepsStanding
