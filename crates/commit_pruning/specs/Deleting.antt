-- The steps by which files are deleted, and where calls stop that take them.
use Rattle.std.specs.Prelude.{◌≡◌, List, [], ◌∷◌, ◌++◌, map, Result, Ok, Err}
use Rattle.ix_base.specs.declared.file_name.FileName.{FileName}
use Rattle.ix_outside.specs.Disk.{Disk, taken, Stops}
use Rattle.ix_outside.specs.declared.step.Step.{Step}
use Rattle.ix_outside.specs.declared.step.Step.TheVariants.{Deleted, Settled}
use Rattle.ix_outside.specs.declared.store.StoreFault.{StoreFault}
use Rattle.ix_outside.specs.declared.store.StoreFault.TheVariants.{Failed, NoMemory}

-- each of the files is deleted, and then that is put on the disk
abbrev pub delete_steps : List FileName → List Step
delete_steps names = map Deleted names ++ Settled ∷ []

-- First the commit files, then the other files, each time put on the disk.
abbrev pub prune_steps : List FileName → List FileName → List Step
prune_steps gone rest = delete_steps gone ++ delete_steps rest

-- The first ones of the steps were taken, and no part of another one.
pub record Pauses (steps : List Step) (old new : Disk) : Type 0 where
  pub front : List Step
  pub behind : List Step
  pub are : steps ≡ front ++ behind
  pub is : new ≡ taken front old

-- After a failure calls took the first few of the steps, and of the next maybe a part; where memory ran out they took
-- the first few.
abbrev pub HaltsAt : StoreFault → List Step → Disk → Disk → Type 0
HaltsAt Failed steps old new = Stops steps old new
HaltsAt NoMemory steps old new = Pauses steps old new

-- Calls take these steps, or halt at one of them.
abbrev pub Halts : {T : Type 0} → List Step → Disk → Disk → Result T StoreFault → Type 0
Halts steps old new (Ok x) = new ≡ taken steps old
Halts steps old new (Err fault) = HaltsAt fault steps old new
