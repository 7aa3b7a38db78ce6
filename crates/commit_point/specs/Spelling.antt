-- The bytes of a commit file. Numbers are written with the highest byte first.
use Rattle.std.specs.Prelude.{ℕ, List, [], ◌++◌, length, codes}
use Rattle.std.specs.List.{flat_map}
use Rattle.ix_base.specs.Spelling.{be32, be64}
use Rattle.segment_files.specs.Spelling.{fields}
use Rattle.commit_point.specs.declared.heads.CommitFormat.{CommitFormat}
use Rattle.commit_point.specs.declared.heads.CommitFormat.TheVariants.{First, Second}
use Rattle.commit_point.specs.declared.heads.HeadSegment.{HeadSegment}
use Rattle.commit_point.specs.declared.heads.Head.{Head}

-- what a commit file begins with, in each form
unfoldable pub first_mark : List ℕ
first_mark = codes "IXCOM001"

unfoldable pub second_mark : List ℕ
second_mark = codes "IXCOM002"

abbrev pub mark_of : CommitFormat → List ℕ
mark_of First = first_mark
mark_of Second = second_mark

-- what stands behind the segments: pairs, in the second form
abbrev pub tail_of : CommitFormat → List (List ℕ × List ℕ) → List ℕ
tail_of First pairs = []
tail_of Second pairs = fields pairs

-- a segment, as a commit file names it
abbrev pub entry : HeadSegment → List ℕ
entry e = be64 e.id ++ (be32 e.rows ++ be64 e.written)

abbrev pub commit_file : Head → List ℕ
commit_file head =
    mark_of head.format
    ++ (be64 head.number
    ++ (be64 head.docs
    ++ (be64 head.next_id
    ++ (be64 (length head.segments)
    ++ (flat_map entry head.segments ++ tail_of head.format head.pairs)))))
