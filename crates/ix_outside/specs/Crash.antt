-- What a crash may leave of a store.
use Rattle.std.specs.Prelude.{◌≡◌, ◌⊎◌, ℕ, ◌≤◌, List, [], ◌∷◌, ◌++◌, length, Option, Some, None, true}
use Rattle.ix_base.specs.declared.file_name.FileName.{FileName}
use Rattle.ix_outside.specs.Files.{Files, SameBut}
use Rattle.ix_outside.specs.Images.{MayHaveRenamed, MayHaveRemoved}
use Rattle.ix_outside.specs.declared.step.Step.{Step}
use Rattle.ix_outside.specs.declared.step.Step.TheVariants.{Wrote, Synced, Renamed, Deleted, Settled, Spoilt, HalfRenamed, HalfDeleted}
use Rattle.ix_outside.specs.Disk.{Disk, files, is_unsynced}

-- The file stands on the disk as reads give it, and every other file is as it was.
pub record Keeps (name : FileName) (told old new : Files) : Type 0 where
  pub there : new name ≡ told name
  pub others : SameBut name old new

-- Each file but the unsynced ones stands on the disk as reads give it, and every file is as it was.
pub record Settles (disk : Disk) (old new : Files) : Type 0 where
  pub same : new ≡ old
  pub kept : (name : FileName) → ¬ (is_unsynced disk name ≡ true) → new name ≡ files disk name

-- What a step after these makes of what a crash may leave. A written file is anything, or absent, until it is
-- synced. A rename or a delete is there or not until all are settled.
abbrev pub Leaves : Step → Disk → Files → Files → Type 0
Leaves (Wrote name bytes) older old new = SameBut name old new
Leaves (Spoilt name found) older old new = SameBut name old new
Leaves (Synced name) older old new = Keeps name (files older) old new
Leaves (Renamed «from» to) older old new = MayHaveRenamed «from» to old new
Leaves (HalfRenamed «from» to) older old new = MayHaveRenamed «from» to old new
Leaves (Deleted name) older old new = MayHaveRemoved name old new
Leaves (HalfDeleted name) older old new = MayHaveRemoved name old new
Leaves Settled older old new = Settles older old new

-- what a crash at this moment may leave
abbrev pub IsImage : Disk → Files → Type 0
IsImage [] image = (name : FileName) → image name ≡ None
IsImage (step ∷ older) image = (d : Files) × IsImage older d × Leaves step older d image

-- what a crash may have left once there were so many steps, or later
abbrev pub LeftSince : ℕ → Disk → Files → Type 0
LeftSince since [] image = IsImage [] image
LeftSince since (step ∷ older) image =
    IsImage (step ∷ older) image ⊎ ((since ≤ length older) × LeftSince since older image)

-- what a crash may leave at some moment from the old disk to the new
abbrev pub MayLeave : Disk → Disk → Files → Type 0
MayLeave old new = LeftSince (length old) new

-- `new` is `old` after further steps
pub record Extends (old new : Disk) : Type 0 where
  pub further : List Step
  pub is : new ≡ further ++ old

-- what a crash at this moment may leave, where a disk is told
abbrev pub MayHold : Option Disk → Files → Type 0
MayHold None image = ⊥
MayHold (Some disk) image = IsImage disk image
