-- The names of an index's files, as a directory shows them.
use Rattle.std.specs.Prelude.{ℕ, ◌<◌, ◌≤◌, ◌^◌, List, ◌++◌, codes}
use Rattle.std.specs.Fmt.{decimal}
use Rattle.ix_base.specs.declared.file_name.FileName.{FileName}
use Rattle.ix_base.specs.declared.file_name.FileName.TheVariants.{Commit, Pending, Rows, Posts, Live, Values}

-- numbers stand in decimal digits without leading zeros
abbrev pub name_text : FileName → List ℕ
name_text (Commit s) = codes "segments_" ++ decimal s
name_text (Pending s) = codes "pending_segments_" ++ decimal s
name_text (Rows id) = codes "seg_" ++ (decimal id ++ codes ".row")
name_text (Posts id) = codes "seg_" ++ (decimal id ++ codes ".pst")
name_text (Live id v) = codes "seg_" ++ (decimal id ++ (codes "_" ++ (decimal v ++ codes ".liv")))
name_text (Values id v) = codes "seg_" ++ (decimal id ++ (codes "_" ++ (decimal v ++ codes ".val")))

-- a number that a file's name may have
pub record IsCounted (n : ℕ) : Type 0 where
  pub some : 1 ≤ n
  pub fits : n < 2 ^ 64

-- the name of a file: its numbers are at least 1
abbrev pub IsFileName : FileName → Type 0
IsFileName (Commit s) = IsCounted s
IsFileName (Pending s) = IsCounted s
IsFileName (Rows id) = IsCounted id
IsFileName (Posts id) = IsCounted id
IsFileName (Live id v) = IsCounted id × IsCounted v
IsFileName (Values id v) = IsCounted id × IsCounted v
