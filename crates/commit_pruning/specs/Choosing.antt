-- Which files are deleted where only the latest commits are kept.
use Rattle.std.specs.Prelude.{◌≡◌, ◌-◌, ◌<◌, ◌↔◌, ℕ, List, Bool, true, false, not, ◌&&◌, ◌==◌, map, take, drop, length, IsSome, AllPairs, Contains}
use Rattle.std.specs.List.{AllZip, filter, flat_map, list_any}
use Rattle.ix_base.specs.declared.file_name.FileName.{FileName}
use Rattle.ix_base.specs.declared.file_name.FileName.TheVariants.{Commit, Pending, Rows, Posts, Live, Values}
use Rattle.ix_outside.specs.Files.{Files, Lists}
use Rattle.commit_point.specs.declared.heads.HeadSegment.{HeadSegment}
use Rattle.commit_point.specs.declared.heads.Head.{Head}
use Rattle.commit_point.specs.Holds.{HasHead}

-- ---- files that no commit lists

abbrev pub has_id : List HeadSegment → ℕ → Bool
has_id entries id = list_any (λ (e : HeadSegment). e.id == id) entries

abbrev pub has_written : List HeadSegment → ℕ → ℕ → Bool
has_written entries id v = list_any (λ (e : HeadSegment). (e.id == id) && (e.written == v)) entries

-- The file is one of a segment that the entries name, or a commit file.
abbrev pub is_listed : List HeadSegment → FileName → Bool
is_listed entries (Commit s) = true
is_listed entries (Pending s) = false
is_listed entries (Rows id) = has_id entries id
is_listed entries (Posts id) = has_id entries id
is_listed entries (Live id v) = has_written entries id v
is_listed entries (Values id v) = has_written entries id v

-- the pending files and the segment files that no entry names
abbrev pub unlisted : List HeadSegment → List FileName → List FileName
unlisted entries names = filter (λ name. not (is_listed entries name)) names

-- ---- the latest commits

-- of rising numbers those before the last so many, and the last so many
abbrev pub earlier : ℕ → List ℕ → List ℕ
earlier keep numbers = take (length numbers - keep) numbers

abbrev pub latest : ℕ → List ℕ → List ℕ
latest keep numbers = drop (length numbers - keep) numbers

-- the segments that commit files name
abbrev pub entries_of : List Head → List HeadSegment
entries_of heads = flat_map (λ (h : Head). h.segments) heads

-- the numbers are those of the commits
abbrev pub AreNumbers : Files → List ℕ → Type 0
AreNumbers files numbers = (s : ℕ) → Contains numbers s ↔ IsSome (files (Commit s))

-- What is deleted where so many commits are kept: the commit files of the earlier ones, and then the files that none of
-- the others lists.
pub record IsPlan (keep : ℕ) (files : Files) (gone rest : List FileName) : Type 0 where
  pub names : List FileName
  pub names_are : Lists files names
  pub numbers : List ℕ
  pub rise : AllPairs ◌<◌ numbers
  pub commits : AreNumbers files numbers
  pub heads : List Head
  pub heads_are : AllZip (HasHead files) (latest keep numbers) heads
  pub gone_are : gone ≡ map Commit (earlier keep numbers)
  pub rest_are : rest ≡ unlisted (entries_of heads) names
