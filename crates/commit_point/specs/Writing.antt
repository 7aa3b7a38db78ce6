-- What making a commit does to the files.
use Rattle.std.specs.Prelude.{◌≡◌, ◌≢◌, ◌⊎◌, ℕ, ◌+◌, ◌<◌, ◌≤◌, List, [], ◌∷◌, ◌++◌, Bool, true, false, Option, length, Some, None, IfSome, ⊤, if◌then◌else◌, nat_lt}
use Rattle.std.specs.List.{filter, AllByRecursion}
use Rattle.ix_base.specs.Births.{first_birth, last_birth}
use Rattle.ix_base.specs.declared.file_name.FileName.{FileName}
use Rattle.ix_base.specs.declared.file_name.FileName.TheVariants.{Commit, Pending, Rows, Posts, Live, Values}
use Rattle.ix_base.specs.Inversion.{IsPostings}
use Rattle.ix_outside.specs.Files.{Files}
use Rattle.ix_outside.specs.declared.step.Step.{Step}
use Rattle.live_docs.specs.Marks.{same_marks, count_live}
use Rattle.segment_core.specs.LiveRows.{Lived}
use Rattle.segment_files.specs.Fits.{BirthsRise, RowsBelow}
use Rattle.live_files.specs.LiveSpelling.{live_file, values_file, live_bits, values_of}
use Rattle.segment_files.specs.Spelling.{rows_file, posts_file}
use Rattle.commit_point.specs.declared.heads.HeadSegment.{HeadSegment}
use Rattle.commit_point.specs.declared.heads.Head.{Head}
use Rattle.commit_point.specs.declared.written.Written.{Written}
use Rattle.segment_core.specs.Births.{SegmentsApart}
use Rattle.commit_point.specs.declared.heads.CommitFormat.TheVariants.{Second}
use Rattle.commit_point.specs.Holds.{Pairs, HasPairs, HasSegment, HasSegments, Lists, head_of}
use Rattle.commit_point.specs.Publishing.{File, AreThere, publishes}
use Rattle.commit_point.specs.Spelling.{commit_file}

-- ---- what is written

-- whether the live docs of a segment are those that were written last
abbrev pub is_same : Option Written → Lived → Bool
is_same None g = false
is_same (Some w) g = same_marks w.live.marks g.live.marks

-- the commit with which the live docs of a segment are written: s, unless they are as they were written before
abbrev pub version : ℕ → Option Written → Lived → ℕ
version s None g = s
version s (Some w) g = if same_marks w.live.marks g.live.marks then w.v else s

-- rows and postings, where the segment isn't on the store yet
abbrev pub row_files : Option Written → Lived → List File
row_files (Some w) g = []
row_files None g =
    (Rows g.segment.id, rows_file g.segment.id g.segment.rows)
    ∷ (Posts g.segment.id, posts_file g.segment.id (length g.segment.rows) g.segment.postings)
    ∷ []

-- live bits and set numbers, where they differ from those written last
abbrev pub live_files : ℕ → Option Written → Lived → List File
live_files s w g = if is_same w g then [] else (
    (Live g.segment.id s, live_file g.segment.id s (live_bits g.live.marks))
    ∷ (Values g.segment.id s, values_file g.segment.id s (length g.segment.rows) (values_of g.live.marks))
    ∷ [])

-- the files of a segment that the commit s writes
abbrev pub files_of : ℕ → Option Written → Lived → List File
files_of s w g = row_files w g ++ live_files s w g

-- a row of the segment is live
abbrev pub is_alive : Lived → Bool
is_alive g = nat_lt 0 (count_live g.live.marks)

-- The segments that a commit lists: those with a live row.
abbrev pub listed : List Lived → List Lived
listed segments = filter is_alive segments

-- the files that are written before the commit file: those of each segment with a live row
abbrev pub commit_files : ℕ → List Lived → List (Option Written) → List File
commit_files s [] ws = []
commit_files s (g ∷ gs) [] = []
commit_files s (g ∷ gs) (w ∷ ws) = (if is_alive g then files_of s w g else []) ++ commit_files s gs ws

-- a segment as the commit file of s names it
abbrev pub entry_of : ℕ → Option Written → Lived → HeadSegment
entry_of s w g = record { id = g.segment.id; rows = length g.segment.rows; written = version s w g }

-- the segments with a live row, as the commit file of s names them
abbrev pub entries_of : ℕ → List Lived → List (Option Written) → List HeadSegment
entries_of s [] ws = []
entries_of s (g ∷ gs) [] = []
entries_of s (g ∷ gs) (w ∷ ws) = (if is_alive g then entry_of s w g ∷ [] else []) ++ entries_of s gs ws

-- what the commit file says
abbrev pub new_head : ℕ → ℕ → Pairs → List Lived → List (Option Written) → Head
new_head s next pairs gs ws = head_of s next (Second, pairs) (entries_of s gs ws) (listed gs)

-- What making the commit s does, step by step: the files of its segments, the commit file under its pending name, and
-- the rename, each on the disk before the next.
abbrev pub commit_steps : ℕ → ℕ → Pairs → List Lived → List (Option Written) → List Step
commit_steps s next pairs gs ws = publishes (commit_files s gs ws) (Pending s) (Commit s) (commit_file (new_head s next pairs gs ws))

-- ---- what can be written

-- A segment can be in the commit s: it has a row, births rise and are those of operations from 1 to s, its postings are in order and name its
-- own rows, and the operations up to s are in it.
pub record CanWrite (s : ℕ) (g : Lived) : Type 0 where
  pub some : 1 ≤ length g.segment.rows
  pub births : BirthsRise (first_birth 1) (last_birth s) g.segment.rows
  pub ordered : IsPostings g.segment.postings.terms
  pub below : RowsBelow (length g.segment.rows) g.segment.postings
  pub applied : g.live.applied ≡ s

-- ids rise, from some number up to below a limit
abbrev pub SegmentIdsRise : ℕ → ℕ → List Lived → Type 0
SegmentIdsRise low limit [] = ⊤
SegmentIdsRise low limit (g ∷ gs) =
    (low ≤ g.segment.id) × (g.segment.id < limit) × SegmentIdsRise (g.segment.id + 1) limit gs

-- what was written was written with a commit from 1 to s
abbrev pub WrittenUpTo : ℕ → Option Written → Type 0
WrittenUpTo s w = IfSome w (λ was. (1 ≤ was.v) × (was.v ≤ s))

-- The segments can be those of the commit s: each can be in it, ids rise and are below the next one, and no operation
-- has rows in two of them. Of each is known what is on the store of it, if anything is.
pub record CanCommit (s next : ℕ) (gs : List Lived) (ws : List (Option Written)) : Type 0 where
  pub can : AllByRecursion (CanWrite s) gs
  pub ids : SegmentIdsRise 1 next gs
  pub apart : SegmentsApart gs
  pub count : length ws ≡ length gs
  pub written : AllByRecursion (WrittenUpTo s) ws

-- ---- what stands in the files before

-- What was written of a segment stands in the files, as it stood for an earlier commit: rows and postings, and the live
-- docs that were written last.
abbrev pub IsWritten : Files → ℕ → Option Written → Lived → Type 0
IsWritten files s None g = ⊤
IsWritten files s (Some w) g = (w.live.applied ≤ s)
    × HasSegment files w.live.applied (record { id = g.segment.id; rows = length g.segment.rows; written = w.v }) (record { segment = g.segment; live = w.live })

-- the same of each segment with a live row
abbrev pub AreWritten : Files → ℕ → List Lived → List (Option Written) → Type 0
AreWritten files s [] ws = ⊤
AreWritten files s (g ∷ gs) [] = ⊤
AreWritten files s (g ∷ gs) (w ∷ ws) = (is_alive g ≡ true → IsWritten files s w g) × AreWritten files s gs ws

-- the id isn't that of a segment that is new
abbrev pub IsOldId : List Lived → List (Option Written) → ℕ → Type 0
IsOldId [] ws id = ⊤
IsOldId (g ∷ gs) [] id = ⊤
IsOldId (g ∷ gs) (None ∷ ws) id = (g.segment.id ≢ id) × IsOldId gs ws id
IsOldId (g ∷ gs) (Some w ∷ ws) id = IsOldId gs ws id

-- The commit s comes after those that are there: its number is above theirs, and none of them lists the id of a segment
-- that is new.
pub record ComesAfter (files : Files) (s : ℕ) (gs : List Lived) (ws : List (Option Written)) : Type 0 where
  pub none_from : (t : ℕ) → s ≤ t → files (Commit t) ≡ None
  pub new_ids : (t : ℕ) (e : HeadSegment) → Lists files t e → IsOldId gs ws e.id

-- ---- what becomes of the files

-- The file isn't one of those that the commit s may write: its commit file, rows and postings of segments that are not
-- old, and what is written with s of live bits and set numbers.
abbrev pub IsElsewhere : ℕ → (ℕ → Type 0) → FileName → Type 0
IsElsewhere s Old (Commit t) = t ≢ s
IsElsewhere s Old (Pending t) = t ≢ s
IsElsewhere s Old (Rows id) = Old id
IsElsewhere s Old (Posts id) = Old id
IsElsewhere s Old (Live id v) = v ≢ s
IsElsewhere s Old (Values id v) = v ≢ s

-- every other file is as it was
abbrev pub SameElsewhere : ℕ → (ℕ → Type 0) → Files → Files → Type 0
SameElsewhere s Old old new = (name : FileName) → IsElsewhere s Old name → new name ≡ old name

-- The commit s was made of these segments, and these pairs stand in it. Each byte that was written is fixed: nothing is
-- left under the pending name, and every other file is as it was. It spells the segments where what was written of them
-- before stands.
pub record Commits (s next : ℕ) (pairs : Pairs) (gs : List Lived) (ws : List (Option Written)) (old new : Files) : Type 0 where
  pub spelled : AreWritten old s gs ws → HasSegments new s next (entries_of s gs ws) (listed gs)
  pub has_pairs : HasPairs new s pairs
  pub commit : new (Commit s) ≡ Some (commit_file (new_head s next pairs gs ws))
  pub files : AreThere (commit_files s gs ws) new
  pub pending : new (Pending s) ≡ None
  pub elsewhere : SameElsewhere s (IsOldId gs ws) old new

-- a crash while the commit s is made: it is there whole, or the commit file is as before
pub record MayCommit (s next : ℕ) (pairs : Pairs) (gs : List Lived) (ws : List (Option Written)) (old new : Files) : Type 0 where
  pub elsewhere : SameElsewhere s (IsOldId gs ws) old new
  pub whole : (new (Commit s) ≡ old (Commit s)) ⊎ Commits s next pairs gs ws old new
