-- What a check has found of the commits before the one that it comes to.
use Rattle.std.specs.Prelude.{◌≡◌, ◌⊎◌, ℕ, ◌+◌, ◌<◌, ◌≤◌, ◌^◌, List, length, Option, Some, Contains}
use Rattle.std.specs.List.{AllByRecursion}
use Rattle.ix_base.specs.Births.{number_of}
use Rattle.ix_base.specs.declared.document.Row.{Row}
use Rattle.ix_outside.specs.Files.{Files}
use Rattle.segment_core.specs.LiveRows.{Lived}
use Rattle.segment_core.specs.Segments.{IsInverted}
use Rattle.segment_files.specs.Fits.{PostingsFit}
use Rattle.commit_point.specs.declared.heads.HeadSegment.{HeadSegment}
use Rattle.commit_point.specs.Holds.{HasSegment, IsAboveIds, Lists}
use Rattle.index_check.specs.declared.fault.Difference.{Difference}
use Rattle.index_check.specs.Difference.{next_id_is}

-- ---- ids

-- the id is one more than one that a commit before s lists
pub record IsBehindListed (files : Files) (s id : ℕ) : Type 0 where
  pub number : ℕ
  pub entry : HeadSegment
  pub earlier : number < s
  pub listed : Lists files number entry
  pub id_is : id ≡ entry.id + 1

-- the least id above each that a commit before s lists; 0 where none lists an id
pub record IsLeastId (files : Files) (s least : ℕ) : Type 0 where
  pub above : IsAboveIds files s least
  pub reached : (least ≡ 0) ⊎ IsBehindListed files s least

-- the least id that is above the id of each entry and not below this one
pub record IsLeastAbove (low : ℕ) (entries : List HeadSegment) (least : ℕ) : Type 0 where
  pub low_is : low ≤ least
  pub above : (e : HeadSegment) → Contains entries e → e.id < least
  pub reached : (least ≡ low) ⊎ ((e : HeadSegment) × Contains entries e × (least ≡ e.id + 1))

-- the next id leaves room, but isn't above each id that an earlier commit lists
pub record IsBelow (s next least : ℕ) (d : Difference) : Type 0 where
  pub room : next ≤ 2 ^ 61
  pub below : next < least
  pub told : d ≡ next_id_is s next least

-- ---- postings

-- The postings of a segment can be spelled, as those are that its file spelled.
pub record CanSpell (g : Lived) : Type 0 where
  pub few : length g.segment.rows < 2 ^ 32
  pub fits : PostingsFit (length g.segment.rows) g.segment.postings

-- ---- segments that were read

-- the operation of each of these rows belongs to the segment of this id
abbrev pub AreOwned : (ℕ → Option ℕ) → ℕ → List Row → Type 0
AreOwned owner id rows = AllByRecursion (λ (r : Row). owner (number_of r.birth) ≡ Some id) rows

-- The segment of this id was read for a commit before s, with so many rows: its postings are the inversion of its rows,
-- and their operations belong to it.
pub record WasRead (files : Files) (s : ℕ) (owner : ℕ → Option ℕ) (id n : ℕ) : Type 0 where
  pub number : ℕ
  pub entry : HeadSegment
  pub segment : Lived
  pub earlier : number < s
  pub id_is : entry.id ≡ id
  pub rows_are : entry.rows ≡ n
  pub has : HasSegment files number entry segment
  pub inverted : IsInverted segment.segment
  pub owned : AreOwned owner id segment.segment.rows

-- each segment that has a count was read for a commit before s, with so many rows
abbrev pub AreKnown : Files → ℕ → (ℕ → Option ℕ) → (ℕ → Option ℕ) → Type 0
AreKnown files s count owner = (id n : ℕ) → count id ≡ Some n → WasRead files s owner id n
