-- What is read of a commit, field by field: what its commit file says and its segments, or the first broken place.
use Rattle.std.specs.Prelude.{ℕ, ◌+◌, ◌^◌, List, [], ◌∷◌, Bool, false, ◌&&◌, ◌||◌, Result, Ok, Err, nat_lt, nat_le, ◌==◌, if◌then◌else◌}
use Rattle.std.specs.Int.{w32, w64}
use Rattle.ix_base.specs.Codec.{◌>>=◌, number_at, items_at}
use Rattle.ix_base.specs.FileReading.{number_where, mark_at, ended, ◌then◌, of_file}
use Rattle.ix_base.specs.Counts.{doc_count}
use Rattle.ix_base.specs.declared.damaged.Damaged.{Damaged}
use Rattle.ix_base.specs.declared.file_name.FileName.TheVariants.{Commit, Rows, Posts, Live, Values}
use Rattle.ix_outside.specs.Files.{Files}
use Rattle.segment_core.specs.Births.{has_number}
use Rattle.segment_core.specs.LiveRows.{Lived, all_live}
use Rattle.live_files.specs.LiveMarks.{marks_of}
use Rattle.live_files.specs.LiveReading.{live_in, values_in}
use Rattle.segment_files.specs.Reading.{rows_in, posts_in}
use Rattle.commit_point.specs.declared.heads.HeadSegment.{HeadSegment}
use Rattle.commit_point.specs.declared.heads.Head.{Head}
use Rattle.commit_point.specs.declared.heads.CommitFormat.{CommitFormat}
use Rattle.commit_point.specs.declared.heads.CommitFormat.TheVariants.{First, Second}
use Rattle.segment_files.specs.Pairs.{pairs_at}
use Rattle.commit_point.specs.Spelling.{first_mark, second_mark}

-- ---- the commit file

-- Ids rise and are below the next id; a segment has a row, and is of this commit or an earlier one.
unfoldable pub entry_at : ℕ → ℕ → ℕ → List ℕ → Result (HeadSegment × List ℕ) ℕ
entry_at s next low bytes = do
  id ← number_where w64 (λ x. nat_le low x && nat_lt x next) bytes
  rows ← number_where w32 (λ x. nat_le 1 x) id.1
  written ← number_where w64 (λ x. nat_le 1 x && nat_le x s) rows.1
  Ok (record { id = id.0; rows = rows.0; written = written.0 }, written.1)

-- The mark of the second form, or else that of the first.
abbrev pub marked_or : Result (List ℕ) ℕ → List ℕ → Result (CommitFormat × List ℕ) ℕ
marked_or (Ok rest) bytes = Ok (Second, rest)
marked_or (Err left) bytes = mark_at first_mark bytes >>= λ rest. Ok (First, rest)

unfoldable pub format_at : List ℕ → Result (CommitFormat × List ℕ) ℕ
format_at bytes = marked_or (mark_at second_mark bytes) bytes

-- the pairs behind the segments, in the second form
unfoldable pub tail_at : CommitFormat → List ℕ → Result (List (List ℕ × List ℕ) × List ℕ) ℕ
tail_at First bytes = Ok ([], bytes)
tail_at Second bytes = pairs_at bytes

-- the commit file of s
unfoldable pub head_in : ℕ → List ℕ → Result Head ℕ
head_in s bytes = do
  format ← format_at bytes
  number ← number_where w64 (λ x. x == s && nat_le 1 x) format.1
  docs ← number_at w64 number.1
  next ← number_where w64 (λ x. nat_le 1 x && nat_le x (2 ^ 62)) docs.1
  count ← number_at w64 next.1
  segments ← items_at (entry_at s next.0) (λ (e : HeadSegment). e.id + 1) 1 count.0 count.1
  pairs ← tail_at format.0 segments.1
  ended (record { number = number.0; docs = docs.0; next_id = next.0; segments = segments.0; format = format.0; pairs = pairs.0 }) pairs.1

-- the commit file of s
unfoldable pub head_from : Files → ℕ → Result Head Damaged
head_from files s = of_file (Commit s) (head_in s) (files (Commit s))

-- the segment that a commit file names: its rows, its postings, its live bits, and last its set numbers
abbrev pub segment_from : Files → ℕ → (ℕ → Bool) → HeadSegment → Result Lived Damaged
segment_from files s known e =
    of_file (Rows e.id) (rows_in e.id e.rows s known) (files (Rows e.id)) then λ rows.
    of_file (Posts e.id) (posts_in e.id e.rows) (files (Posts e.id)) then λ postings.
    of_file (Live e.id e.written) (live_in e.id e.written e.rows) (files (Live e.id e.written)) then λ bits.
    of_file (Values e.id e.written) (values_in e.id e.written e.rows) (files (Values e.id e.written)) then λ values.
    Ok (record {
      segment = record { id = e.id; rows = rows; postings = postings };
      live = record { applied = s; marks = marks_of bits values };
    })

-- each segment, in the order of the commit file; no operation of an earlier one may have rows in it
unfoldable pub segments_from : Files → ℕ → (ℕ → Bool) → List HeadSegment → Result (List Lived) Damaged
segments_from files s known [] = Ok []
segments_from files s known (e ∷ es) =
    segment_from files s known e then λ g.
    segments_from files s (λ n. known n || has_number g.segment.rows n) es then λ more.
    Ok (g ∷ more)

-- What the commit file of s says, and its segments. How many live rows it tells is tested last.
unfoldable pub reading : Files → ℕ → Result (Head × List Lived) Damaged
reading files s =
    head_from files s then λ head.
    segments_from files s (λ n. false) head.segments then λ segments.
    (if head.docs == doc_count (all_live segments) then Ok (head, segments) else Err (record { file = Commit s; at = 16 }))
