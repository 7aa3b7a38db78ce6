-- What is known of segments, and how it grows.
use Rattle.std.specs.Prelude.{◌≡◌, ◌≢◌, ◌⊎◌, ℕ, ◌+◌, ◌≤◌, ◌^◌, List, length, Option, Some, IsSome}
use Rattle.std.specs.BTreeMap.{get}
use Rattle.std.specs.List.{AllByRecursion}
use Rattle.std.specs.Ordering.{nat_cmp}
use Rattle.ix_base.specs.Counts.{doc_count}
use Rattle.ix_base.specs.declared.document.Row.{Row}
use Rattle.ix_outside.specs.Files.{Files}
use Rattle.live_docs.specs.Marks.{count_live}
use Rattle.segment_core.specs.LiveRows.{Lived, all_live}
use Rattle.segment_core.specs.Segments.{IsInverted}
use Rattle.commit_point.specs.declared.heads.HeadSegment.{HeadSegment}
use Rattle.commit_point.specs.declared.open.Opened.{Opened}
use Rattle.commit_point.specs.declared.heads.Head.{Head}
use Rattle.commit_point.specs.Holds.{AreInverted, HasHead, HasSegment, HaveSegments}
use Rattle.index_check.specs.declared.earlier.Earlier.{Earlier}
use Rattle.index_check.specs.declared.fault.Difference.{Difference}
use Rattle.index_check.specs.declared.known.Known.{Known}
use Rattle.index_check.specs.Difference.{HaveOther, LacksRoom}
use Rattle.index_check.specs.Earlier.{AreKnown, AreOwned, IsBelow, IsLeastId}
use Rattle.index_check.specs.Sound.{IsLawfulCommit}

-- how many rows the segment of this id has, if it is known
abbrev pub count_of : Known → ℕ → Option ℕ
count_of known id = get nat_cmp known.row_counts id

-- the id of the segment that the operation of this number belongs to
abbrev pub owner_of : Known → ℕ → Option ℕ
owner_of known number = get nat_cmp known.owners number

-- what is known of segments is so, of commits before s
abbrev pub IsKnown : Files → ℕ → Known → Type 0
IsKnown files s known = AreKnown files s (count_of known) (owner_of known)

-- what is known of segments but that of this id stays
pub record Keeps (id : ℕ) (old new : Known) : Type 0 where
  pub counts : (other : ℕ) → id ≢ other → count_of new other ≡ count_of old other
  pub owners : (number other : ℕ) → id ≢ other → IsSome (count_of old other)
      → owner_of old number ≡ Some other → owner_of new number ≡ Some other

-- the segment of this id is known with these rows, and what else is known stays
pub record Takes (id : ℕ) (rows : List Row) (old new : Known) : Type 0 where
  pub here : count_of new id ≡ Some (length rows)
  pub owned : AreOwned (owner_of new) id rows
  pub others : Keeps id old new

-- ---- a segment of a commit

-- The files of a segment of the commit s are sound, its rows' operations belong to it, and so many rows are live.
pub record IsSoundSegment (files : Files) (s : ℕ) (owner : ℕ → Option ℕ)
    (e : HeadSegment) (live : ℕ) : Type 0 where
  pub segment : Lived
  pub has : HasSegment files s e segment
  pub inverted : IsInverted segment.segment
  pub owned : AreOwned owner e.id segment.segment.rows
  pub live_is : live ≡ count_live segment.live.marks

-- the same, and the segment is known now, beside what else was
pub record IsSoundNow (files : Files) (s : ℕ) (e : HeadSegment) (old new : Known) (live : ℕ) : Type 0 where
  pub sound : IsSoundSegment files s (owner_of new) e live
  pub known : IsKnown files (s + 1) new
  pub here : count_of new e.id ≡ Some e.rows
  pub others : Keeps e.id old new

-- The files of these segments of the commit s are sound, the segments are known, and so many of their rows are live.
pub record AreSound (files : Files) (s : ℕ) (entries : List HeadSegment) (known : Known) (docs : ℕ) : Type 0 where
  pub segments : List Lived
  pub each : HaveSegments files s entries segments
  pub inverted : AreInverted segments
  pub owned : AllByRecursion (λ (g : Lived). AreOwned (owner_of known) g.segment.id g.segment.rows) segments
  pub docs_are : docs ≡ doc_count (all_live segments)
  pub known_now : IsKnown files (s + 1) known
  pub here : AllByRecursion (λ (e : HeadSegment). count_of known e.id ≡ Some e.rows) entries

-- ---- a commit

-- what is known of the commits before s
pub record IsBefore (files : Files) (s : ℕ) (earlier : Earlier) : Type 0 where
  pub ids : IsLeastId files s earlier.least_id
  pub segments : IsKnown files s earlier.known

-- Nothing of the commit differs: its next id is lawful, and so are the postings of each segment.
pub record IsSame (opened : Opened) (least : ℕ) : Type 0 where
  pub room : opened.next_id ≤ 2 ^ 61
  pub above : least ≤ opened.next_id
  pub each : AreInverted opened.segments

-- the next id is lawful, and the postings of a segment first differ here
pub record HasOtherPostings (opened : Opened) (least : ℕ) (d : Difference) : Type 0 where
  pub room : opened.next_id ≤ 2 ^ 61
  pub above : least ≤ opened.next_id
  pub other : HaveOther (λ g. IsInverted g.segment) opened.segments d

-- where the commit first differs
abbrev pub IsOther : Opened → ℕ → Difference → Type 0
IsOther opened least d = LacksRoom opened.number opened.next_id d
    ⊎ (IsBelow opened.number opened.next_id least d ⊎ HasOtherPostings opened least d)

-- The commit s is lawful, this is what its file says, and what is known of the commits up to it.
pub record IsSoundHead (files : Files) (s : ℕ) (head : Head) (earlier : Earlier) : Type 0 where
  pub has : HasHead files s head
  pub lawful : IsLawfulCommit files s
  pub before : IsBefore files (s + 1) earlier
