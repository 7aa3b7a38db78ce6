-- Where a commit that is in the grammar first isn't as it has to be.
use Rattle.std.specs.Prelude.{◌≡◌, ◌≢◌, ◌⊎◌, ℕ, ◌+◌, ◌<◌, ◌≤◌, ◌^◌, List, ◌∷◌, ◌++◌, length, take, slice_index_or}
use Rattle.std.specs.List.{AllByRecursion}
use Rattle.ix_base.specs.Inversion.{IsInversion}
use Rattle.ix_base.specs.declared.file_name.FileName.{FileName}
use Rattle.ix_base.specs.declared.file_name.FileName.TheVariants.{Commit, Posts}
use Rattle.ix_base.specs.declared.postings.Postings.{Postings}
use Rattle.ix_outside.specs.Files.{Files}
use Rattle.segment_files.specs.Spelling.{posts_file}
use Rattle.segment_core.specs.LiveRows.{Lived}
use Rattle.segment_core.specs.Segments.{documents, IsInverted}
use Rattle.segment_core.specs.declared.segment.Segment.{Segment}
use Rattle.commit_point.specs.declared.heads.HeadSegment.{HeadSegment}
use Rattle.commit_point.specs.Holds.{HasSegments, IsAboveIds, Lists}
use Rattle.index_check.specs.declared.fault.Difference.{Difference}
use Rattle.index_check.specs.Sound.{AreLawfulBelow}

-- ---- bytes

-- the byte at this place; 256 at the end and behind it
abbrev pub byte_at : List ℕ → ℕ → ℕ
byte_at bytes at = slice_index_or bytes at 256

-- Of a file these bytes were found and those wanted. They are the same up to this place and differ there, where one of
-- them may end.
pub record DifferAt (file : FileName) (found wanted : List ℕ) (d : Difference) : Type 0 where
  pub file_is : d.file ≡ file
  pub before : take d.at found ≡ take d.at wanted
  pub differ : byte_at found d.at ≢ byte_at wanted d.at
  pub found_is : d.found ≡ byte_at found d.at
  pub wanted_is : d.wanted ≡ byte_at wanted d.at

-- ---- the next id

-- The next id of the commit s was found, and another one wanted. It stands at 24 in the commit file.
abbrev pub next_id_is : ℕ → ℕ → ℕ → Difference
next_id_is s next wanted = record { file = Commit s; at = 24; found = next; wanted = wanted }

-- the greatest id that a commit before s lists
pub record IsGreatestBefore (files : Files) (s greatest : ℕ) : Type 0 where
  pub above : IsAboveIds files s (greatest + 1)
  pub number : ℕ
  pub entry : HeadSegment
  pub earlier : number < s
  pub listed : Lists files number entry
  pub id : entry.id ≡ greatest

-- the next id leaves no room: it is above 2^61
pub record LacksRoom (s next : ℕ) (d : Difference) : Type 0 where
  pub above : 2 ^ 61 < next
  pub told : d ≡ next_id_is s next (2 ^ 61)

-- the next id is not above the greatest id that an earlier commit lists
pub record IsTaken (files : Files) (s next : ℕ) (d : Difference) : Type 0 where
  pub room : next ≤ 2 ^ 61
  pub greatest : ℕ
  pub is : IsGreatestBefore files s greatest
  pub taken : next ≤ greatest
  pub told : d ≡ next_id_is s next (greatest + 1)

-- ---- the postings

-- the postings of a segment as its file spells them
abbrev pub spelled : Segment → Postings → List ℕ
spelled segment postings = posts_file segment.id (length segment.rows) postings

-- the file of a segment's postings differs from that of the inversion of its rows, first at this place
pub record IsOtherAt (segment : Segment) (d : Difference) : Type 0 where
  pub wanted : Postings
  pub inversion : IsInversion (documents segment.rows) wanted
  pub differ : DifferAt (Posts segment.id) (spelled segment segment.postings) (spelled segment wanted) d

-- the first segment that isn't as it has to be, where this is said of those that are, and where its postings differ
pub record HaveOther (IsSame : Lived → Type 0) (segments : List Lived) (d : Difference) : Type 0 where
  pub before : List Lived
  pub other : Lived
  pub behind : List Lived
  pub there : segments ≡ before ++ other ∷ behind
  pub same : AllByRecursion IsSame before
  pub differs : IsOtherAt other.segment d

-- the next id is lawful, and of the segments one is the first whose postings aren't the inversion of its rows
pub record HasOther (files : Files) (s next : ℕ) (segments : List Lived) (d : Difference) : Type 0 where
  pub room : next ≤ 2 ^ 61
  pub above : IsAboveIds files s next
  pub other : HaveOther (λ g. IsInverted g.segment) segments d

-- ---- the store

-- The commit s is in the grammar, and this is the first place where it isn't as it has to be: its
-- next id is tested before its segments' postings, and these by rising id.
pub record DiffersAt (files : Files) (s : ℕ) (d : Difference) : Type 0 where
  pub next : ℕ
  pub entries : List HeadSegment
  pub segments : List Lived
  pub has : HasSegments files s next entries segments
  pub which : LacksRoom s next d ⊎ (IsTaken files s next d ⊎ HasOther files s next segments d)

-- The first commit that isn't lawful is in the grammar, and first differs here.
pub record DiffersIn (files : Files) (d : Difference) : Type 0 where
  pub number : ℕ
  pub before : AreLawfulBelow files number
  pub first : DiffersAt files number d
