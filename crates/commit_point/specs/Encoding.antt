-- What is known of segments once the files that a commit writes were encoded.
use Rattle.std.specs.Prelude.{◌≡◌, ℕ, ◌<◌, ◌^◌, List, [], ◌∷◌, true, false, Option, None, length, ⊤, if◌then◌else◌}
use Rattle.std.specs.List.{AllByRecursion}
use Rattle.ix_base.specs.declared.document.Row.{Row}
use Rattle.segment_core.specs.LiveRows.{Lived, IsWhole}
use Rattle.segment_files.specs.Fits.{DocumentFits, PostingsFit}
use Rattle.live_files.specs.LiveFits.{LiveFits, ValuesFit}
use Rattle.live_files.specs.LiveSpelling.{live_bits, values_of}
use Rattle.commit_point.specs.declared.heads.HeadSegment.{HeadSegment}
use Rattle.commit_point.specs.declared.written.Written.{Written}
use Rattle.commit_point.specs.Publishing.{File}
use Rattle.commit_point.specs.Writing.{is_same, is_alive, files_of, entry_of}

-- the segment as the commit file of s names it, where it has a live row
abbrev pub own_entries : ℕ → Option Written → Lived → List HeadSegment
own_entries s w g = if is_alive g then entry_of s w g ∷ [] else []

-- the files of the segment that the commit s writes: none where it has no live row
abbrev pub own_files : ℕ → Option Written → Lived → List File
own_files s w g = if is_alive g then files_of s w g else []

-- each segment has a mark for each row
abbrev pub AreWhole : List Lived → Type 0
AreWhole gs = AllByRecursion (λ (g : Lived). IsWhole g.segment g.live) gs

-- what the commit writes of a segment has a spelling
pub record IsEncoded (w : Option Written) (g : Lived) : Type 0 where
  pub documents : w ≡ None → AllByRecursion (λ (r : Row). DocumentFits r.doc) g.segment.rows
  pub postings : w ≡ None → PostingsFit (length g.segment.rows) g.segment.postings
  pub live : is_same w g ≡ false → LiveFits (length g.segment.rows) (live_bits g.live.marks)
  pub values : is_same w g ≡ false → ValuesFit (length g.segment.rows) (values_of g.live.marks)

-- the same, of a segment with a live row
abbrev pub IsEncodedAlive : Option Written → Lived → Type 0
IsEncodedAlive w g = is_alive g ≡ true → IsEncoded w g

-- the same of each segment
abbrev pub AreEncoded : List Lived → List (Option Written) → Type 0
AreEncoded [] ws = ⊤
AreEncoded (g ∷ gs) [] = ⊤
AreEncoded (g ∷ gs) (w ∷ ws) = IsEncodedAlive w g × AreEncoded gs ws

-- The segments have a spelling in a commit's files: each has a mark for each row, what is written of it fits, and how
-- many there are does.
pub record HaveSpelling (gs : List Lived) (ws : List (Option Written)) : Type 0 where
  pub whole : AreWhole gs
  pub encoded : AreEncoded gs ws
  pub count : length gs < 2 ^ 64
