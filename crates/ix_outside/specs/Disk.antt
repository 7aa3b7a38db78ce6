-- What a store holds: the steps that made it from an empty one, the newest first.
use Rattle.std.specs.Prelude.{◌≡◌, ◌⊎◌, ℕ, List, [], ◌∷◌, Option, Some, None, Bool, true, false, ◌&&◌, ◌==◌, if◌then◌else◌, Result, Ok, Err, ⊤}
use Rattle.ix_base.specs.declared.file_name.FileName.{FileName}
use Rattle.ix_base.specs.declared.file_name.FileName.TheVariants.{Commit, Pending, Rows, Posts, Live, Values}
use Rattle.ix_outside.specs.Files.{Files}
use Rattle.ix_outside.specs.declared.store.StoreFault.{StoreFault}
use Rattle.ix_outside.specs.declared.store.StoreFault.TheVariants.{Failed, NoMemory}
use Rattle.ix_outside.specs.declared.step.Step.{Step}
use Rattle.ix_outside.specs.declared.step.Step.TheVariants.{Wrote, Synced, Renamed, Deleted, Spoilt, HalfRenamed, HalfDeleted}

abbrev pub Disk : Type 0
Disk = List Step

abbrev pub is_same : FileName → FileName → Bool
is_same (Commit s) (Commit t) = s == t
is_same (Pending s) (Pending t) = s == t
is_same (Rows s) (Rows t) = s == t
is_same (Posts s) (Posts t) = s == t
is_same (Live s v) (Live t w) = (s == t) && (v == w)
is_same (Values s v) (Values t w) = (s == t) && (v == w)
is_same f g = false

-- the function, but with this at the name
abbrev pub with_at : {A : Type 0} → FileName → A → (FileName → A) → FileName → A
with_at name x f other = if is_same other name then x else f other

-- the function, but with what it has at one name moved to another, and this at the first
abbrev pub moved : {A : Type 0} → FileName → FileName → A → (FileName → A) → FileName → A
moved «from» to gone f = if is_same «from» to then f else with_at «from» gone (with_at to (f «from») f)

-- what reads give
abbrev pub files : Disk → Files
files [] = λ name. None
files (Wrote name bytes ∷ older) = with_at name (Some bytes) (files older)
files (Spoilt name found ∷ older) = with_at name found (files older)
files (Renamed «from» to ∷ older) = moved «from» to None (files older)
files (Deleted name ∷ older) = with_at name None (files older)
files (step ∷ older) = files older

-- the bytes of this file were written since it was last synced
abbrev pub is_unsynced : Disk → FileName → Bool
is_unsynced [] = λ name. false
is_unsynced (Wrote name bytes ∷ older) = with_at name true (is_unsynced older)
is_unsynced (Spoilt name found ∷ older) = with_at name true (is_unsynced older)
is_unsynced (Synced name ∷ older) = with_at name false (is_unsynced older)
is_unsynced (Renamed «from» to ∷ older) = moved «from» to false (is_unsynced older)
is_unsynced (Deleted name ∷ older) = with_at name false (is_unsynced older)
is_unsynced (step ∷ older) = is_unsynced older

-- ---- one call

-- what a call that was to take a step may have taken in its place when it failed, beside no step
abbrev pub IsPartOf : Step → Step → Type 0
IsPartOf (Wrote name bytes) part = (found : Option (List ℕ)) × (part ≡ Spoilt name found)
IsPartOf (Synced name) part = (found : Option (List ℕ)) × (part ≡ Spoilt name found)
IsPartOf (Renamed «from» to) part = (part ≡ Renamed «from» to) ⊎ (part ≡ HalfRenamed «from» to)
IsPartOf (Deleted name) part = (part ≡ Deleted name) ⊎ (part ≡ HalfDeleted name)
IsPartOf step part = ⊥

-- the step failed: it was not taken, or in part
abbrev pub Failing : Step → Disk → Disk → Type 0
Failing step old new = (new ≡ old) ⊎ ((part : Step) × IsPartOf step part × (new ≡ part ∷ old))

-- A call takes this step, or fails at it, or was out of memory and changed nothing.
abbrev pub TakesOn : {T : Type 0} → Step → Disk → Disk → Result T StoreFault → Type 0
TakesOn step old new (Ok x) = new ≡ step ∷ old
TakesOn step old new (Err Failed) = Failing step old new
TakesOn step old new (Err NoMemory) = new ≡ old

-- ---- several calls

-- these steps one after another, the first of them first
abbrev pub taken : List Step → Disk → Disk
taken [] disk = disk
taken (step ∷ steps) disk = taken steps (step ∷ disk)

-- the first few of the steps were taken, and of the next maybe a part
abbrev pub Stops : List Step → Disk → Disk → Type 0
Stops [] old new = new ≡ old
Stops (step ∷ steps) old new = Failing step old new ⊎ Stops steps (step ∷ old) new

-- Calls take these steps. After an error they took the first few, and of the next maybe a part.
abbrev pub DoesOn : {T E : Type 0} → List Step → Disk → Disk → Result T E → Type 0
DoesOn steps old new (Ok x) = new ≡ taken steps old
DoesOn steps old new (Err e) = Stops steps old new

-- ---- a store that may tell nothing

-- Where a store tells its disk it goes on telling, and the change leads from the old one to the new. Where it tells
-- nothing it goes on telling nothing.
abbrev pub Told : (Disk → Disk → Type 0) → Option Disk → Option Disk → Type 0
Told change None None = ⊤
Told change (Some old) (Some new) = change old new
Told change old new = ⊥

-- what reads give, where that is told
abbrev pub told_files : Option Disk → Option Files
told_files None = None
told_files (Some disk) = Some (files disk)

-- what is said of a disk, where it is told
abbrev pub IfTold : (Disk → Type 0) → Option Disk → Type 0
IfTold says None = ⊤
IfTold says (Some disk) = says disk

-- a disk is told, and this is said of it
abbrev pub Tells : (Disk → Type 0) → Option Disk → Type 0
Tells says None = ⊥
Tells says (Some disk) = says disk

-- ---- the same where a store tells

abbrev pub Takes : {T : Type 0} → Step → Option Disk → Option Disk → Result T StoreFault → Type 0
Takes step old new result = Told (λ a b. TakesOn step a b result) old new

abbrev pub Does : {T E : Type 0} → List Step → Option Disk → Option Disk → Result T E → Type 0
Does steps old new result = Told (λ a b. DoesOn steps a b result) old new
