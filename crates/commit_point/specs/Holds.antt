-- What the files of a commit spell, as a relation on bytes apart from any code.
use Rattle.std.specs.Prelude.{◌≡◌, ◌⊎◌, ℕ, ◌<◌, ◌≤◌, ◌^◌, List, [], ◌∷◌, length, Some, IsSome, ⊤, IsPermutation, Contains}
use Rattle.std.specs.List.{AllByRecursion}
use Rattle.ix_base.specs.Births.{first_birth, last_birth}
use Rattle.ix_base.specs.Counts.{doc_count}
use Rattle.ix_base.specs.declared.file_name.FileName.{FileName}
use Rattle.ix_base.specs.declared.file_name.FileName.TheVariants.{Commit, Rows, Posts, Live, Values}
use Rattle.ix_base.specs.declared.document.Row.{Row}
use Rattle.ix_outside.specs.Files.{Files}
use Rattle.segment_core.specs.Births.{SegmentsApart}
use Rattle.segment_core.specs.LiveRows.{Lived, IsWhole, all_live}
use Rattle.segment_core.specs.Segments.{IsInverted}
use Rattle.segment_files.specs.Fits.{RowsFit, PostingsFit, BirthsRise}
use Rattle.live_files.specs.LiveFits.{LiveFits, ValuesFit}
use Rattle.live_files.specs.LiveSpelling.{live_file, values_file, live_bits, values_of}
use Rattle.segment_files.specs.Spelling.{SpellsRows, posts_file}
use Rattle.commit_point.specs.declared.heads.HeadSegment.{HeadSegment}
use Rattle.commit_point.specs.declared.heads.CommitFormat.{CommitFormat}
use Rattle.commit_point.specs.declared.heads.Head.{Head}
use Rattle.commit_point.specs.Spelling.{commit_file}
use Rattle.commit_point.specs.Fits.{HeadFits}

-- ---- what the files spell

-- the commit file of s is in the grammar, and spells this head
pub record HasHead (files : Files) (s : ℕ) (head : Head) : Type 0 where
  pub file : files (Commit s) ≡ Some (commit_file head)
  pub number : head.number ≡ s
  pub fits : HeadFits head

-- pairs of a name and a text
abbrev pub Pairs : Type 0
Pairs = List (List ℕ × List ℕ)

-- the commit file of s is in the grammar, and these pairs stand in it
abbrev pub HasPairs : Files → ℕ → Pairs → Type 0
HasPairs files s pairs = (head : Head) × HasHead files s head × (head.pairs ≡ pairs)

-- the file of the rows of the segment of this id spells these rows, in either form
pub record HasRows (files : Files) (id : ℕ) (rows : List Row) : Type 0 where
  pub bytes : List ℕ
  pub file : files (Rows id) ≡ Some bytes
  pub spells : SpellsRows id rows bytes

-- The four files of a segment that a commit file names spell this segment: its rows and postings, its live bits and its
-- set numbers. All operations up to s are in it.
pub record HasSegment (files : Files) (s : ℕ) (e : HeadSegment) (g : Lived) : Type 0 where
  pub id : g.segment.id ≡ e.id
  pub count : length g.segment.rows ≡ e.rows
  pub whole : IsWhole g.segment g.live
  pub applied : g.live.applied ≡ s
  pub rows : HasRows files e.id g.segment.rows
  pub posts : files (Posts e.id) ≡ Some (posts_file e.id e.rows g.segment.postings)
  pub live : files (Live e.id e.written) ≡ Some (live_file e.id e.written (live_bits g.live.marks))
  pub values : files (Values e.id e.written) ≡ Some (values_file e.id e.written e.rows (values_of g.live.marks))
  pub rows_fit : RowsFit s g.segment.rows
  pub posts_fit : PostingsFit e.rows g.segment.postings
  pub live_fit : LiveFits e.rows (live_bits g.live.marks)
  pub values_fit : ValuesFit e.rows (values_of g.live.marks)

-- the segments that a commit file names, one by one
abbrev pub HaveSegments : Files → ℕ → List HeadSegment → List Lived → Type 0
HaveSegments files s [] [] = ⊤
HaveSegments files s (e ∷ es) (g ∷ gs) = HasSegment files s e g × HaveSegments files s es gs
HaveSegments files s es gs = ⊥

-- the form of a commit file, and the pairs that stand in it
abbrev pub Tail : Type 0
Tail = CommitFormat × Pairs

-- what the commit file of these segments says
abbrev pub head_of : ℕ → ℕ → Tail → List HeadSegment → List Lived → Head
head_of s next tail entries segments = record {
  number = s;
  docs = doc_count (all_live segments);
  next_id = next;
  segments = entries;
  format = tail.0;
  pairs = tail.1;
}

-- The files of commit s spell these segments, by rising id, as these entries name them, and this
-- next id; no operation has rows in two segments. What pairs they have is said apart (HasPairs).
pub record HasSegments (files : Files) (s next : ℕ) (entries : List HeadSegment) (segments : List Lived) : Type 0 where
  pub tail : Tail
  pub head : HasHead files s (head_of s next tail entries segments)
  pub each : HaveSegments files s entries segments
  pub apart : SegmentsApart segments

-- the live rows of the segments, by rising birth; they are born by the operation s or before
pub record AreRowsOf (s : ℕ) (segments : List Lived) (rows : List Row) : Type 0 where
  pub merged : IsPermutation (all_live segments) rows
  pub births : BirthsRise (first_birth 1) (last_birth s) rows

-- The files of commit s spell these rows, by birth, and this next id.
pub record Holds (files : Files) (s next : ℕ) (rows : List Row) : Type 0 where
  pub entries : List HeadSegment
  pub segments : List Lived
  pub spelled : HasSegments files s next entries segments
  pub rows_are : AreRowsOf s segments rows

-- the postings of each segment are the inversion of its rows
abbrev pub AreInverted : List Lived → Type 0
AreInverted segments = AllByRecursion (λ (g : Lived). IsInverted g.segment) segments

-- The same, and the postings of each segment are the inversion of its rows.
pub record HoldsInverted (files : Files) (s next : ℕ) (rows : List Row) : Type 0 where
  pub holds : Holds files s next rows
  pub inverted : AreInverted holds.segments

-- ---- whose files these are

-- the files of a segment that a commit file names
abbrev pub names_of : HeadSegment → List FileName
names_of e = Rows e.id ∷ Posts e.id ∷ Live e.id e.written ∷ Values e.id e.written ∷ []

-- the name is one of these
abbrev pub IsAmong : List FileName → FileName → Type 0
IsAmong [] name = ⊥
IsAmong (n ∷ ns) name = (name ≡ n) ⊎ IsAmong ns name

-- the commit s is in the grammar, and lists this segment
pub record Lists (files : Files) (s : ℕ) (e : HeadSegment) : Type 0 where
  pub head : Head
  pub has_head : HasHead files s head
  pub listed : Contains head.segments e

-- The files of commit s: its commit file and, where that is in the grammar, those of the segments that it lists.
abbrev pub IsFileOf : Files → ℕ → FileName → Type 0
IsFileOf files s name = (name ≡ Commit s) ⊎ ((e : HeadSegment) × Lists files s e × IsAmong (names_of e) name)

-- the id is above each that a commit before s lists
abbrev pub IsAboveIds : Files → ℕ → ℕ → Type 0
IsAboveIds files s id = (t : ℕ) (e : HeadSegment) → t < s → Lists files t e → e.id < id

-- A commit is lawful: its files spell its rows, each segment's postings are the inversion of its rows, and its next id
-- leaves room and is above each id that an earlier commit lists.
pub record IsLawful (files : Files) (s next : ℕ) (rows : List Row) : Type 0 where
  pub holds : HoldsInverted files s next rows
  pub room : next ≤ 2 ^ 61
  pub above : IsAboveIds files s next

-- each commit that was there has the files and bytes that it had
abbrev pub KeepsCommits : Files → Files → Type 0
KeepsCommits old new = (s : ℕ) → IsSome (old (Commit s)) → (name : FileName) → IsFileOf old s name → new name ≡ old name

-- Each commit is kept: every image has its files with the bytes that reads give. And no image has another commit.
pub record AreKept (files : Files) (images : Files → Type 0) : Type 0 where
  pub kept : (d : Files) → images d → KeepsCommits files d
  pub only : (d : Files) → images d → (s : ℕ) → IsSome (d (Commit s)) → IsSome (files (Commit s))
