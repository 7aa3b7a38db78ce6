-- The commit that questions are about.
use Rattle.std.specs.Prelude.{◌≡◌, ◌≤◌, ◌⊎◌, ℕ, List, [], Option, Some, None, All, Contains, IsErrAnd, IsSome, Result, Err, unwrap_or}
use Rattle.ix_base.specs.declared.damaged.Damaged.{Damaged}
use Rattle.ix_base.specs.declared.file_name.FileName.TheVariants.{Commit}
use Rattle.ix_outside.specs.Files.{Files, Was}
use Rattle.commit_point.specs.Loading.{IsOutside}
use Rattle.commit_point.specs.declared.fault.OpenFault.{OpenFault}
use Rattle.commit_point.specs.declared.fault.OpenFault.TheVariants as opening
use Rattle.searcher.specs.Searching.{IsDamagedIn}

-- ---- among numbers

-- the number that is asked for is among these: the one that is named, or the greatest where none is
abbrev pub IsAmong : List ℕ → Option ℕ → ℕ → Type 0
IsAmong numbers (Some named) s = (s ≡ named) × Contains numbers s
IsAmong numbers None s = Contains numbers s × All (λ t. t ≤ s) numbers

-- none of these is the one that is asked for
abbrev pub LacksAmong : List ℕ → Option ℕ → Type 0
LacksAmong numbers (Some named) = Contains numbers named → ⊥
LacksAmong numbers None = numbers ≡ []

-- ---- in a store

-- the commit that is asked for: the one that is named, or the last where none is
abbrev pub IsAsked : Files → Option ℕ → ℕ → Type 0
IsAsked files (Some named) s = (s ≡ named) × IsSome (files (Commit s))
IsAsked files None s = IsSome (files (Commit s)) × ((t : ℕ) → IsSome (files (Commit t)) → t ≤ s)

-- there is no commit that is asked for
abbrev pub LacksAsked : Files → Option ℕ → Type 0
LacksAsked files (Some named) = files (Commit named) ≡ None
LacksAsked files None = (t : ℕ) → files (Commit t) ≡ None

-- the same in a store that may tell nothing
abbrev pub IsAskedIn : Option Files → Option ℕ → ℕ → Type 0
IsAskedIn told named s = (files : Files) × Was told files × IsAsked files named s

-- ---- faults

-- the number that a missing commit is told by
abbrev pub missing : Option ℕ → OpenFault
missing named = opening.NoSuch (unwrap_or named 0)

-- the commit that is asked for is missing, or the fault is one of these
abbrev pub IsNoSuchOr : Option ℕ → (OpenFault → Type 0) → OpenFault → Type 0
IsNoSuchOr named Other fault = (fault ≡ missing named) ⊎ Other fault

-- What a call says of a store without the commit that is asked for: that there is none, unless the store fails or
-- memory runs out. It says so of no other store.
pub record TellsLack {T : Type 0} (told : Option Files) (named : Option ℕ) (result : Result T OpenFault) : Type 0 where
  pub no_such : (other : ℕ) → result ≡ Err (opening.NoSuch other)
      → (other ≡ unwrap_or named 0) × ((files : Files) → told ≡ Some files → LacksAsked files named)
  pub lacks : (files : Files) → told ≡ Some files → LacksAsked files named
      → IsErrAnd result (IsNoSuchOr named IsOutside)

-- the commit that is asked for has this number, and is first broken at this place
pub record IsDamagedAsked (told : Option Files) (named : Option ℕ) (damaged : Damaged) : Type 0 where
  pub number : ℕ
  pub asked : IsAskedIn told named number
  pub broken : IsDamagedIn told number damaged
