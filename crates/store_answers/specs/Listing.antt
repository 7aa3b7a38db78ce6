-- The list of a store's commits.
use Rattle.std.specs.Prelude.{◌≡◌, ◌<◌, ◌↔◌, ◌⊎◌, ℕ, List, length, slice_index_or, Option, Some, AllPairs, Contains, IsSome, Err}
use Rattle.std.specs.List.{AllZip}
use Rattle.ix_base.specs.declared.damaged.Damaged.{Damaged}
use Rattle.ix_base.specs.declared.file_name.FileName.TheVariants.{Commit}
use Rattle.ix_outside.specs.Files.{Files, Was}
use Rattle.commit_point.specs.Holds.{HasHead}
use Rattle.commit_point.specs.Reading.{head_from}
use Rattle.commit_point.specs.declared.heads.Head.{Head}
use Rattle.report_text.specs.Lines.{listed_value, text_line}
use Rattle.store_answers.specs.declared.listing.ListFault.{ListFault}
use Rattle.store_answers.specs.declared.listing.ListFault.TheVariants as listing

-- ---- the lines

-- the line of a commit: its number, its pairs, if it has some, and the number of its documents
abbrev pub line_text : Head → List ℕ
line_text head = text_line (listed_value head.number head.pairs head.docs)

-- ---- the commits

-- the numbers of the commits, rising
pub record AreNumbers (files : Files) (numbers : List ℕ) : Type 0 where
  pub rise : AllPairs ◌<◌ numbers
  pub all : (s : ℕ) → Contains numbers s ↔ IsSome (files (Commit s))

-- all commits, by rising number, and what their commit files spell
pub record AreListed (files : Files) (heads : List Head) : Type 0 where
  pub numbers : List ℕ
  pub are : AreNumbers files numbers
  pub spelled : AllZip (HasHead files) numbers heads

-- ---- damage

-- the store failed or memory ran out
abbrev pub IsOutside : ListFault → Type 0
IsOutside fault = (fault ≡ listing.Store) ⊎ (fault ≡ listing.NoMemory)

-- the commit file of this number is first broken at this place
abbrev pub IsBrokenCommit : Option Files → ℕ → Damaged → Type 0
IsBrokenCommit told s damaged = (files : Files) × Was told files × (head_from files s ≡ Err damaged)

-- The commit file of this number is first broken at this place, and each earlier one is in the grammar.
pub record IsFirstBroken (files : Files) (s : ℕ) (damaged : Damaged) : Type 0 where
  pub there : IsSome (files (Commit s))
  pub broken : head_from files s ≡ Err damaged
  pub before : (t : ℕ) → t < s → IsSome (files (Commit t)) → (head : Head) × HasHead files t head

-- Of the commits of these numbers one is first broken at this place, and each before it is in the grammar.
pub record BreaksAmong (told : Option Files) (numbers : List ℕ) (damaged : Damaged) : Type 0 where
  pub at : ℕ
  pub within : at < length numbers
  pub broken : IsBrokenCommit told (slice_index_or numbers at 0) damaged
  pub before : (files : Files) → told ≡ Some files → (k : ℕ) → k < at
      → (head : Head) × HasHead files (slice_index_or numbers k 0) head
