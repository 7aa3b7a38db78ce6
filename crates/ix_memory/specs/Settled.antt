-- A store in memory that was filled and settled, and the files that a crash leaves.
use Rattle.std.specs.Prelude.{◌≡◌, ℕ, List, [], ◌∷◌, Option, Some, None, Bool, true, false, Vec, if◌then◌else◌}
use Rattle.std.specs.declared.alloc.Global.{Global}
use Rattle.ix_base.specs.declared.file_name.FileName.{FileName}
use Rattle.ix_outside.specs.Files.{Files}
use Rattle.ix_outside.specs.Disk.{Disk, with_at, is_unsynced, files as files_of}
use Rattle.ix_outside.specs.Crash.{IsImage}
use Rattle.ix_outside.specs.declared.step.Step.{Step}
use Rattle.ix_outside.specs.declared.step.Step.TheVariants.{Wrote, Synced, Renamed, Deleted, Settled, Spoilt, HalfRenamed, HalfDeleted}

-- these files are on the disk: reads give them, and a crash leaves them and nothing else
pub record AreDurable (held : Files) (disk : Disk) : Type 0 where
  pub read : files_of disk ≡ held
  pub nothing_else : (c : Files) → IsImage disk c → (name : FileName) → c name ≡ held name
  pub synced : (name : FileName) → is_unsynced disk name ≡ false

-- no file
abbrev pub no_files : Files
no_files name = None

-- the files with those of the pairs, of which the last of a name counts
abbrev pub with_pairs : List (FileName × Vec ℕ Global) → Files → Files
with_pairs [] files = files
with_pairs (pair ∷ pairs) files = with_pairs pairs (with_at pair.0 (Some pair.1.items) files)

-- the file that a step makes
abbrev pub file_made : Step → Option FileName
file_made (Wrote name bytes) = Some name
file_made (Synced name) = None
file_made (Renamed «from» to) = Some to
file_made (Deleted name) = None
file_made Settled = None
file_made (Spoilt name found) = Some name
file_made (HalfRenamed «from» to) = None
file_made (HalfDeleted name) = None

-- the function, but with what another has at this name
abbrev pub taken_at : {A : Type 0} → Option FileName → (FileName → A) → (FileName → A) → FileName → A
taken_at None g f = f
taken_at (Some name) g f = with_at name (g name) f

-- the files that some step made
abbrev pub are_made : Disk → FileName → Bool
are_made [] name = false
are_made (call ∷ older) name = taken_at (file_made call) (λ _. true) (are_made older) name

-- no file is unsynced
abbrev pub AllSynced : Disk → Type 0
AllSynced disk = (name : FileName) → is_unsynced disk name ≡ false

-- the files are those of the other ones that were made
abbrev pub Fills : (FileName → Bool) → Files → Files → Type 0
Fills made source files = (name : FileName) → files name ≡ (if made name then source name else None)
