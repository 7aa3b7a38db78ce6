-- When all commits of a store are sound.
use Rattle.std.specs.Prelude.{◌≡◌, ◌⊎◌, ◌<◌, ◌↔◌, ℕ, List, map, Option, Some, AllPairs, Contains, IsSome, Err}
use Rattle.std.specs.List.{AllByRecursion}
use Rattle.ix_base.specs.declared.damaged.Damaged.{Damaged}
use Rattle.ix_base.specs.declared.document.Row.{Row}
use Rattle.ix_base.specs.declared.file_name.FileName.TheVariants.{Commit}
use Rattle.ix_outside.specs.Files.{Files, Was}
use Rattle.commit_point.specs.Holds.{HasHead, IsLawful}
use Rattle.commit_point.specs.Reading.{reading}
use Rattle.commit_point.specs.declared.heads.Head.{Head}
use Rattle.index_check.specs.declared.fault.CheckFault.{CheckFault}
use Rattle.index_check.specs.declared.fault.CheckFault.TheVariants as checking

-- the commit of this number holds some rows as a commit has to
abbrev pub IsLawfulCommit : Files → ℕ → Type 0
IsLawfulCommit files s = (next : ℕ) × (rows : List Row) × IsLawful files s next rows

abbrev pub AreLawful : Files → Type 0
AreLawful files = (s : ℕ) → IsSome (files (Commit s)) → IsLawfulCommit files s

abbrev pub AreLawfulBelow : Files → ℕ → Type 0
AreLawfulBelow files s = (t : ℕ) → t < s → IsSome (files (Commit t)) → IsLawfulCommit files t

-- the heads of all commits, by rising number
pub record AreHeads (files : Files) (heads : List Head) : Type 0 where
  pub rise : AllPairs ◌<◌ (map (λ (head : Head). head.number) heads)
  pub all : (s : ℕ) → Contains (map (λ (head : Head). head.number) heads) s ↔ IsSome (files (Commit s))
  pub each : AllByRecursion (λ (head : Head). HasHead files head.number head) heads

-- The commit of this number is first broken at this place, and where the store tells its files,
-- each commit before it is lawful.
pub record IsDamagedAt (told : Option Files) (damaged : Damaged) : Type 0 where
  pub number : ℕ
  pub files : Files
  pub was : Was told files
  pub broken : reading files number ≡ Err damaged
  pub there : (all : Files) → told ≡ Some all → IsSome (all (Commit number))
  pub before : (all : Files) → told ≡ Some all → AreLawfulBelow all number

-- the store failed or memory ran out
abbrev pub IsOutside : CheckFault → Type 0
IsOutside fault = (fault ≡ checking.Store) ⊎ (fault ≡ checking.NoMemory)
