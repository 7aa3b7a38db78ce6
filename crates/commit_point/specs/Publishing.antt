-- Writing files and syncing them, and publishing them by a rename.
use Rattle.std.specs.Prelude.{◌≡◌, ◌≢◌, ◌⊎◌, ℕ, ◌≤◌, Result, IfErr, List, [], ◌∷◌, ◌++◌, map, Some, None, ⊤, Bool, true, false}
use Rattle.std.specs.List.{AllByRecursion}
use Rattle.ix_base.specs.declared.file_name.FileName.{FileName}
use Rattle.ix_outside.specs.Files.{Files}
use Rattle.ix_outside.specs.Causes.{Rose}
use Rattle.commit_point.specs.declared.fault.CommitRefused.{CommitRefused}
use Rattle.ix_outside.specs.declared.store.StoreFault.{StoreFault}
use Rattle.ix_outside.specs.declared.store.StoreFault.TheVariants.{Failed, NoMemory}
use Rattle.ix_outside.specs.declared.step.Step.{Step}
use Rattle.ix_outside.specs.Disk.{Disk, taken, Stops}
use Rattle.ix_outside.specs.declared.step.Step.TheVariants.{Wrote, Synced, Renamed, Settled}

-- a file to be written: its name and its bytes
abbrev pub File : Type 0
File = FileName × List ℕ

-- a file is written, and then put on the disk
abbrev pub puts : FileName → List ℕ → List Step
puts name bytes = Wrote name bytes ∷ Synced name ∷ []

-- each file is written, in turn
abbrev pub writes_all : List File → List Step
writes_all list = map (λ (file : File). Wrote file.0 file.1) list

-- each file is put on the disk, in turn
abbrev pub syncs_all : List File → List Step
syncs_all list = map (λ (file : File). Synced file.0) list

-- all files are written, and then they are put on the disk
abbrev pub puts_all : List File → List Step
puts_all list = writes_all list ++ syncs_all list

-- The files are put, then a last one under a pending name, which is then renamed; last the directory is synced.
abbrev pub publishes : List File → FileName → FileName → List ℕ → List Step
publishes list pending final bytes = puts_all list ++ (puts pending bytes ++ (Renamed pending final ∷ Settled ∷ []))

-- no file of the list has this name
abbrev pub IsNoneOf : List File → FileName → Type 0
IsNoneOf list name = AllByRecursion (λ (file : File). file.0 ≢ name) list

-- no two files of the list have one name
abbrev pub AreApart : List File → Type 0
AreApart [] = ⊤
AreApart (file ∷ more) = IsNoneOf more file.0 × AreApart more

-- every file is as it was, but those of the list
abbrev pub Touches : List File → Files → Files → Type 0
Touches list old new = (name : FileName) → IsNoneOf list name → new name ≡ old name

-- the files of the list have their bytes
abbrev pub AreThere : List File → Files → Type 0
AreThere list files = AllByRecursion (λ (file : File). files file.0 ≡ Some file.1) list

-- the files of the list have their bytes, and every other file is as it was
pub record Adds (list : List File) (old new : Files) : Type 0 where
  pub there : AreThere list new
  pub others : Touches list old new

-- every file is as it was, but those of the list, the pending one and the last one
abbrev pub SameBesides : List File → FileName → FileName → Files → Files → Type 0
SameBesides list pending final old new =
    (name : FileName) → IsNoneOf list name → name ≢ pending → name ≢ final → new name ≡ old name

-- the last file has its bytes, and so has each of the list; nothing is left under the pending name
pub record IsWhole (list : List File) (pending final : FileName) (bytes : List ℕ) (files : Files) : Type 0 where
  pub last : files final ≡ Some bytes
  pub gone : files pending ≡ None
  pub there : AreThere list files

-- all was published
pub record Publishes (list : List File) (pending final : FileName) (bytes : List ℕ) (old new : Files) : Type 0 where
  pub whole : IsWhole list pending final bytes new
  pub elsewhere : SameBesides list pending final old new

-- all was published, or the last file is as before
pub record MayPublish (list : List File) (pending final : FileName) (bytes : List ℕ) (old new : Files) : Type 0 where
  pub whole : (new final ≡ old final) ⊎ IsWhole list pending final bytes new
  pub elsewhere : SameBesides list pending final old new

-- the files, the pending name and the last one are apart
pub record CanPublish (list : List File) (pending final : FileName) : Type 0 where
  pub files : AreApart list
  pub pending_none : IsNoneOf list pending
  pub final_none : IsNoneOf list final
  pub differ : pending ≢ final

-- A rename after other steps was done, or memory ran out before it.
pub record Refuses (before : List Step) (rename : Step) (fault : StoreFault) (renamed : Bool) (old new : Disk) : Type 0 where
  pub done : renamed ≡ true → new ≡ taken (before ++ rename ∷ []) old
  pub not_done : renamed ≡ false → fault ≡ NoMemory → Stops before old new

-- no count of faults fell, and it rose where the refusal is for a failed call
pub record BlamesRefusal {T : Type 0} (before now : ℕ) (result : Result T CommitRefused) : Type 0 where
  pub later : before ≤ now
  pub failed : IfErr result (λ refused. refused.fault ≡ Failed → Rose before now)
