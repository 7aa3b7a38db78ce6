-- The names of the files that the steps of a store have left.
use Rattle.std.specs.Prelude.{◌≡◌, ◌≢◌, ◌⊎◌, ◌↔◌, List, ◌∷◌, Contains, AllPairs}
use Rattle.ix_base.specs.FileNames.{IsFileName}
use Rattle.ix_base.specs.declared.file_name.FileName.{FileName}
use Rattle.ix_outside.specs.Files.{Lists}
use Rattle.ix_outside.specs.Disk.{Disk, files as files_of}
use Rattle.ix_outside.specs.declared.step.Step.{Step}
use Rattle.ix_outside.specs.declared.step.Step.TheVariants.{Wrote, Synced, Renamed, Deleted, Settled, Spoilt, HalfRenamed, HalfDeleted}

-- the file that the step makes, if it makes one, has a name that a file may have
abbrev pub NamesFile : Step → Type 0
NamesFile (Wrote name bytes) = IsFileName name
NamesFile (Synced name) = Unit {0}
NamesFile (Renamed «from» to) = IsFileName to
NamesFile (Deleted name) = Unit {0}
NamesFile Settled = Unit {0}
NamesFile (Spoilt name found) = IsFileName name
NamesFile (HalfRenamed «from» to) = Unit {0}
NamesFile (HalfDeleted name) = Unit {0}

-- one name more
pub record Gains (name : FileName) (old new : List FileName) : Type 0 where
  pub each : (other : FileName) → Contains new other ↔ (Contains old other ⊎ (other ≡ name))
  pub once : AllPairs ◌≢◌ old → AllPairs ◌≢◌ new

-- one name less
pub record Loses (name : FileName) (old new : List FileName) : Type 0 where
  pub each : (other : FileName) → Contains new other ↔ (Contains old other × (other ≢ name))
  pub once : AllPairs ◌≢◌ old → AllPairs ◌≢◌ new

-- the names of the files before the step become those after it
abbrev pub GoesOn : Step → List FileName → List FileName → Type 0
GoesOn step old new = (older : Disk) → Lists (files_of older) old → Lists (files_of (step ∷ older)) new
