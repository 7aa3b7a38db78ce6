-- Which commits are given up where only the latest are kept, and what that makes of the files.
use Rattle.std.specs.Prelude.{◌≡◌, ◌⊎◌, ◌<◌, ◌↔◌, ℕ, List, ◌∷◌, length, Option, None, ⊤, IsSome, Err, AllPairs, Contains}
use Rattle.std.specs.List.{AllByRecursion}
use Rattle.ix_base.specs.declared.damaged.Damaged.{Damaged}
use Rattle.ix_base.specs.declared.file_name.FileName.{FileName}
use Rattle.ix_base.specs.declared.file_name.FileName.TheVariants.{Commit}
use Rattle.ix_outside.specs.Disk.{Disk}
use Rattle.ix_outside.specs.Files.{Files, Was}
use Rattle.ix_outside.specs.declared.step.Step.{Step}
use Rattle.ix_outside.specs.declared.step.Step.TheVariants.{Deleted, HalfDeleted, Settled}
use Rattle.commit_point.specs.declared.heads.Head.{Head}
use Rattle.commit_point.specs.Holds.{HasHead, IsFileOf, KeepsCommits}
use Rattle.commit_point.specs.Reading.{head_from}
use Rattle.commit_point.specs.Steps.{GoesBy}
use Rattle.commit_pruning.specs.declared.fault.PruningFault.{PruningFault}
use Rattle.commit_pruning.specs.declared.fault.PruningFault.TheVariants as pruning

-- the files of one commit are as they were
abbrev pub IsWholeAs : ℕ → Files → Files → Type 0
IsWholeAs s old new = (name : FileName) → IsFileOf old s name → new name ≡ old name

-- Where so many commits are kept, the commit s is given up: so many later ones are there.
pub record IsGivenUp (keep : ℕ) (files : Files) (s : ℕ) : Type 0 where
  pub later : List ℕ
  pub count : length later ≡ keep
  pub rise : AllPairs ◌<◌ (s ∷ later)
  pub there : AllByRecursion (λ (t : ℕ). IsSome (files (Commit t))) later

-- a commit that is there, and stays where so many are kept
pub record Stays (keep : ℕ) (files : Files) (s : ℕ) : Type 0 where
  pub there : IsSome (files (Commit s))
  pub not_given_up : ¬ IsGivenUp keep files s

-- Some commits may have been given up: each that stays is as it was, each is whole or has no commit
-- file, and no other one has come.
pub record MayBePruned (keep : ℕ) (old new : Files) : Type 0 where
  pub stays : (s : ℕ) → Stays keep old s → IsWholeAs s old new
  pub each : (s : ℕ) → IsSome (old (Commit s)) → (new (Commit s) ≡ None) ⊎ IsWholeAs s old new
  pub only : (s : ℕ) → IsSome (new (Commit s)) → IsSome (old (Commit s))

-- the numbers of the commits that are given up, rising
pub record AreGivenUp (keep : ℕ) (files : Files) (numbers : List ℕ) : Type 0 where
  pub rise : AllPairs ◌<◌ numbers
  pub each : (s : ℕ) → Contains numbers s ↔ (IsSome (files (Commit s)) × IsGivenUp keep files s)

-- So many commits were given up: each that stays is as it was, and no other one is there. Each file
-- that is there is one of a commit that is there.
pub record IsPruned (keep count : ℕ) (old new : Files) : Type 0 where
  pub gone : List ℕ
  pub given_up : AreGivenUp keep old gone
  pub many : length gone ≡ count
  pub stays : (s : ℕ) → Stays keep old s → IsWholeAs s old new
  pub only : (s : ℕ) → IsSome (new (Commit s)) → Stays keep old s
  pub clean : (name : FileName) → IsSome (new name) → (s : ℕ) × IsSome (new (Commit s)) × IsFileOf new s name

-- Each commit that reads give is kept. An image may have besides some of the commits that are given up, each of them
-- whole as it was.
pub record AreKeptBut (keep : ℕ) (before files : Files) (images : Files → Type 0) : Type 0 where
  pub kept : (d : Files) → images d → KeepsCommits files d
  pub only : (d : Files) → images d → (s : ℕ) → IsSome (d (Commit s))
      → IsSome (files (Commit s)) ⊎ (IsGivenUp keep before s × IsWholeAs s before d)

-- ---- one commit by itself, whatever became of the others

-- the commit s is kept: each image has its files with the bytes that reads give
abbrev pub IsKeptIn : ℕ → Files → (Files → Type 0) → Type 0
IsKeptIn s files images = (d : Files) → images d → IsWholeAs s files d

-- no image has a commit s
abbrev pub IsGoneFrom : ℕ → (Files → Type 0) → Type 0
IsGoneFrom s images = (d : Files) → images d → d (Commit s) ≡ None

-- The commit s is as it was, or it is given up where so many are kept, and has no commit file.
abbrev pub IsWholeOrGivenUp : ℕ → ℕ → Files → Files → Type 0
IsWholeOrGivenUp keep s old new = IsWholeAs s old new ⊎ (IsGivenUp keep old s × (new (Commit s) ≡ None))

-- ---- steps

-- a file is deleted, perhaps in part, or the directory is synced
abbrev pub Deletes : Step → Type 0
Deletes (Deleted name) = ⊤
Deletes (HalfDeleted name) = ⊤
Deletes Settled = ⊤
Deletes step = ⊥

-- each step of the calls is such a one: nothing is written or renamed
abbrev pub OnlyDeletes : Disk → Disk → Type 0
OnlyDeletes = GoesBy (λ step older. Deletes step)

-- ---- refusals

-- the store failed or memory ran out
abbrev pub IsOutside : PruningFault → Type 0
IsOutside fault = (fault ≡ pruning.Store) ⊎ (fault ≡ pruning.NoMemory)

-- the commit file of this number is first broken at this place
abbrev pub IsBrokenCommit : Option Files → ℕ → Damaged → Type 0
IsBrokenCommit told s damaged = (files : Files) × Was told files × (head_from files s ≡ Err damaged)

-- the commit file of a commit that stays is first broken at this place
pub record BreaksStaying (keep : ℕ) (files : Files) (damaged : Damaged) : Type 0 where
  pub number : ℕ
  pub stays : Stays keep files number
  pub broken : head_from files number ≡ Err damaged

-- each commit file that stays is in the grammar
abbrev pub AreWhole : ℕ → Files → Type 0
AreWhole keep files = (s : ℕ) → Stays keep files s → (head : Head) × HasHead files s head
