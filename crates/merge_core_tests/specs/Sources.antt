-- Segments that have every third document of blocks.
use Rattle.std.specs.Prelude.{◌≡◌, ℕ, ◌+◌, ◌*◌, ◌/◌, ◌%◌, ◌≤◌, length}
use Rattle.std.specs.List.{AllByRecursion}
use Rattle.ix_base.specs.Births.{birth_of, first_birth, last_birth}
use Rattle.ix_base.specs.declared.document.Row.{Row}
use Rattle.segment_files.specs.Fits.{BirthsRise}
use Rattle.segment_core.specs.LiveRows.{Lived}
use Rattle.merge_core.specs.Merging.{IsOrdered}

-- Documents are counted from 1 on. Each operation adds the next four as a block: this is the birth of the n-th.
abbrev pub birth_at : ℕ → ℕ
birth_at n = birth_of ((n + 3) / 4) ((n + 3) % 4)

-- the row is that of this document, or of every third one behind it
abbrev pub IsBornFrom : ℕ → Row → Type 0
IsBornFrom first row = (i : ℕ) × (row.birth ≡ birth_at (first + 3 * i))

-- the segment has the number of its first document as its id, and the rows of every third one from this one on
pub record IsThird (first : ℕ) (s : Lived) : Type 0 where
  pub id : s.segment.id ≡ first
  pub ordered : IsOrdered s
  pub applied : s.live.applied ≡ 40000
  pub rise : BirthsRise (first_birth 1) (last_birth 30000) s.segment.rows
  pub born : AllByRecursion (IsBornFrom first) s.segment.rows
  pub few : length s.segment.rows ≤ 10000
