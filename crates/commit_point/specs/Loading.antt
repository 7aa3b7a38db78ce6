-- What the reads of a commit tell, of the files where a store tells them and else of files that the reads fit.
use Rattle.std.specs.Prelude.{◌≡◌, ℕ, List, [], ◌∷◌, Bool, false, ◌==◌, ◌||◌, ◌⊎◌, ⊤, Option, Some, None, Result, Err, IsErrAnd}
use Rattle.std.specs.List.{AllByRecursion}
use Rattle.ix_base.specs.Births.{number_of}
use Rattle.ix_base.specs.declared.file_name.FileName.{FileName}
use Rattle.ix_base.specs.declared.file_name.FileName.TheVariants.{Commit}
use Rattle.ix_base.specs.declared.document.Row.{Row}
use Rattle.ix_outside.specs.Files.{Files, Was, Reads}
use Rattle.ix_base.specs.declared.damaged.Damaged.{Damaged}
use Rattle.commit_point.specs.declared.fault.OpenFault.{OpenFault}
use Rattle.commit_point.specs.declared.fault.OpenFault.TheVariants as faults
use Rattle.commit_point.specs.declared.heads.Head.{Head}
use Rattle.segment_core.specs.Births.{has_number}
use Rattle.segment_core.specs.LiveRows.{Lived}
use Rattle.commit_point.specs.Holds.{HaveSegments}
use Rattle.ix_base.specs.FileReading.{of_file}
use Rattle.commit_point.specs.Reading.{segments_from}

-- the name is that of the commit s
abbrev pub names_commit : ℕ → FileName → Bool
names_commit s (Commit t) = s == t
names_commit s name = false

-- the store failed or memory ran out
abbrev pub IsOutside : OpenFault → Type 0
IsOutside fault = (fault ≡ faults.Store) ⊎ (fault ≡ faults.NoMemory)

-- What a call for the commit s says of a store without it: that there is none, unless the store fails or memory runs
-- out. It says so of no other store.
pub record TellsNone {T : Type 0} (told : Option Files) (s : ℕ) (result : Result T OpenFault) : Type 0 where
  pub no_such : (other : ℕ) → result ≡ Err (faults.NoSuch other)
      → (other ≡ s) × ((files : Files) → told ≡ Some files → files (Commit s) ≡ None)
  pub absent : (files : Files) → told ≡ Some files → files (Commit s) ≡ None
      → IsErrAnd result (λ fault. (fault ≡ faults.NoSuch s) ⊎ IsOutside fault)

-- a read of this file gave what is broken here
pub record IsBroken {A : Type 0} (told : Option Files) (name : FileName)
    (read : List ℕ → Result A ℕ) (damaged : Damaged) : Type 0 where
  pub found : Option (List ℕ)
  pub seen : Reads told name found
  pub broken : of_file name read found ≡ Err damaged

-- no row of a segment is of an operation whose number is known, or that has a row in an earlier segment
abbrev pub Unknown : (ℕ → Bool) → List Lived → Type 0
Unknown known [] = ⊤
Unknown known (g ∷ gs) =
    AllByRecursion (λ (r : Row). known (number_of r.birth) ≡ false) g.segment.rows
    × Unknown (λ n. known n || has_number g.segment.rows n) gs

-- the segments of a commit were read
pub record AreRead (told : Option Files) (head : Head) (before : Files) (segments : List Lived) : Type 0 where
  pub files : Files
  pub was : Was told files
  pub commit : files (Commit head.number) ≡ before (Commit head.number)
  pub each : HaveSegments files head.number head.segments segments
  pub unknown : Unknown (λ n. false) segments

-- a segment of a commit is broken, and each before it is not
pub record BreakAt (told : Option Files) (head : Head) (before : Files) (damaged : Damaged) : Type 0 where
  pub files : Files
  pub was : Was told files
  pub commit : files (Commit head.number) ≡ before (Commit head.number)
  pub broken : segments_from files head.number (λ n. false) head.segments ≡ Err damaged
