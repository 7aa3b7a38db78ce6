-- What a merge of segments is: the segments that are merged, and the segment that is made of them.
use Rattle.std.specs.Prelude.{◌≡◌, ◌≢◌, ℕ, ◌<◌, ◌≤◌, ◌^◌, List, [], Option, Some, None, length, Contains, AllPairs, IsPermutation}
use Rattle.std.specs.List.{AllByRecursion, AllZip}
use Rattle.ix_base.specs.Births.{first_birth, last_birth}
use Rattle.ix_base.specs.Inversion.{IsPostings}
use Rattle.segment_core.specs.LiveRows.{Lived, MarksLater, live, all_live, stored_rows}
use Rattle.segment_core.specs.Segments.{IsInverted}
use Rattle.segment_files.specs.Fits.{BirthsRise, RowsBelow}
use Rattle.segment_core.specs.Births.{EachRises, births_at, BirthsDiffer}

-- the ids of the segments rise
abbrev pub IdsRise : List Lived → Type 0
IdsRise segments = AllPairs (λ (s t : Lived). s.segment.id < t.segment.id) segments

-- The segments of these ids, one by one: each is in the list and has the id.
abbrev pub Sources : List Lived → List ℕ → List Lived → Type 0
Sources segments ids sources = AllZip (λ (id : ℕ) (s : Lived). Contains segments s × (s.segment.id ≡ id)) ids sources

-- how many rows the segments have, live or not
abbrev pub row_count : List Lived → ℕ
row_count segments = length (stored_rows segments)

-- the terms of the segment's postings rise, and so do the rows of each
abbrev pub IsOrdered : Lived → Type 0
IsOrdered s = IsPostings s.segment.postings.terms

-- Segments can be merged: births rise in each, of operations from 1 up to some limit, no two rows of them have one
-- birth, their postings are in order, and fewer than 2^31 of their rows are live.
pub record CanMerge (sources : List Lived) : Type 0 where
  pub limit : ℕ
  pub rise : EachRises limit sources
  pub differ : BirthsDiffer sources
  pub ordered : AllByRecursion IsOrdered sources
  pub few : length (all_live sources) < 2 ^ 31

-- the same segment later: its rows and postings are the same, no row was brought back, and numbers were only set
pub record IsLater (s later : Lived) : Type 0 where
  pub segment : later.segment ≡ s.segment
  pub marks : MarksLater s.live.marks later.live.marks

-- the same segments later
abbrev pub AreLater : List Lived → List Lived → Type 0
AreLater sources later = AllZip IsLater sources later

-- all operations up to this number, and none above it, are in each of the segments
abbrev pub AreAt : ℕ → List Lived → Type 0
AreAt applied sources = AllByRecursion (λ (s : Lived). s.live.applied ≡ applied) sources

-- the postings of each of the segments are the inversion of its rows
abbrev pub AreInverted : List Lived → Type 0
AreInverted sources = AllByRecursion (λ (s : Lived). IsInverted s.segment) sources

-- The segment that sources were merged into, under this id: its live rows are theirs, by birth, and its postings are
-- the inversion of its rows where theirs are; in any case they are in order, with no row that isn't there. Some row is
-- live, no row is one that they haven't, and all operations up to `applied` are in it.
pub record IsMerged (sources : List Lived) (id applied : ℕ) (s : Lived) : Type 0 where
  pub id_is : s.segment.id ≡ id
  pub ordered : IsOrdered s
  pub below : RowsBelow (length s.segment.rows) s.segment.postings
  pub inverted : AreInverted sources → IsInverted s.segment
  pub applied_is : s.live.applied ≡ applied
  pub rows : IsPermutation (live s) (all_live sources)
  pub some : live s ≢ []
  pub births : (limit : ℕ) → EachRises limit sources → BirthsRise (first_birth 1) (last_birth limit) s.segment.rows
  pub stored : (b : ℕ) → births_at b s.segment.rows ≤ births_at b (stored_rows sources)

-- What is merged of sources: nothing exactly where no row of them is live.
abbrev pub Merged : List Lived → ℕ → ℕ → Option Lived → Type 0
Merged sources id applied None = all_live sources ≡ []
Merged sources id applied (Some s) = IsMerged sources id applied s
