-- What is read of a segment's files, field by field, or the first broken field.
use Rattle.std.specs.Prelude.{ℕ, ◌+◌, List, length, Bool, true, not, ◌&&◌, ◌||◌, Option, Some, None, Result, Ok, Err, nat_lt, nat_le, ◌==◌, if◌then◌else◌}
use Rattle.std.specs.Int.{w32, w64}
use Rattle.ix_base.specs.Births.{birth_of, first_birth, number_of}
use Rattle.ix_base.specs.Codec.{◌>>=◌, number_at, text_at, items_at}
use Rattle.ix_base.specs.FileReading.{number_where, name_where, mark_at, ended}
use Rattle.ix_base.specs.Limits.{text_lt}
use Rattle.ix_base.specs.declared.document.Row.{Row}
use Rattle.ix_base.specs.declared.document.Term.{Term}
use Rattle.ix_base.specs.declared.postings.Posting.{Posting}
use Rattle.ix_base.specs.declared.postings.TermPostings.{TermPostings}
use Rattle.ix_base.specs.declared.postings.Postings.{Postings}
use Rattle.segment_files.specs.Fields.{document_at}
use Rattle.segment_files.specs.Spelling.{old_rows_mark, rows_mark, posts_mark}
use Rattle.segment_files.specs.declared.marks.RowFormat.{RowFormat}
use Rattle.segment_files.specs.declared.marks.RowFormat.TheVariants.{First, Second}

-- ---- rows

-- The mark of the second form, or else that of the first.
abbrev pub marked_or : Result (List ℕ) ℕ → List ℕ → Result (RowFormat × List ℕ) ℕ
marked_or (Ok rest) bytes = Ok (Second, rest)
marked_or (Err left) bytes = mark_at old_rows_mark bytes >>= λ rest. Ok (First, rest)

unfoldable pub format_at : List ℕ → Result (RowFormat × List ℕ) ℕ
format_at bytes = marked_or (mark_at rows_mark bytes) bytes

-- a place, below 64; in the first form it is 0 and takes no bytes
unfoldable pub place_at : RowFormat → List ℕ → Result (ℕ × List ℕ) ℕ
place_at First bytes = Ok (0, bytes)
place_at Second bytes = number_where w32 (λ x. nat_lt x 64) bytes

-- A birth is `low` or later, of an operation up to the commit's number, of which no earlier segment has a row. A number
-- of which no birth may come is broken, and so is a birth that is below `low`, at its number.
unfoldable pub birth_at : RowFormat → ℕ → (ℕ → Bool) → ℕ → List ℕ → Result (ℕ × List ℕ) ℕ
birth_at format s known low bytes = do
  number ← number_where w64 (λ x. nat_le (number_of low) x && nat_le x s && not (known x)) bytes
  place ← place_at format number.1
  if nat_le low (birth_of number.0 place.0) then Ok (birth_of number.0 place.0, place.1) else Err (length bytes)

-- a row, of a file of this form
unfoldable pub row_at : RowFormat → ℕ → (ℕ → Bool) → ℕ → List ℕ → Result (Row × List ℕ) ℕ
row_at format s known low bytes = do
  birth ← birth_at format s known low bytes
  doc ← document_at birth.1
  Ok (record { birth = birth.0; doc = doc.0 }, doc.1)

-- the file of the segment of this id, of n rows and at least one, in the commit s
unfoldable pub rows_in : ℕ → ℕ → ℕ → (ℕ → Bool) → List ℕ → Result (List Row) ℕ
rows_in id n s known bytes = do
  format ← format_at bytes
  own ← number_where w64 (λ x. x == id) format.1
  count ← number_where w32 (λ x. x == n && nat_le 1 x) own.1
  rows ← items_at (row_at format.0 s known) (λ (r : Row). r.birth + 1) (first_birth 1) n count.1
  ended rows.0 rows.1

-- ---- postings

-- a position is from `low` on
abbrev pub position_at : ℕ → List ℕ → Result (ℕ × List ℕ) ℕ
position_at low bytes = number_where w32 (λ x. nat_le low x) bytes

-- a row is from `low` to below n, and has a position
unfoldable pub posting_at : ℕ → ℕ → List ℕ → Result (Posting × List ℕ) ℕ
posting_at n low bytes = do
  row ← number_where w32 (λ x. nat_le low x && nat_lt x n) bytes
  count ← number_where w32 (λ x. nat_le 1 x) row.1
  positions ← items_at position_at (λ (x : ℕ). x + 1) 0 count.0 count.1
  Ok (record { row = row.0; positions = positions.0 }, positions.1)

-- the field isn't before that of the last term, where there was one
abbrev pub field_comes : Option Term → List ℕ → Bool
field_comes None field = true
field_comes (Some last) field = not (text_lt field last.field)

-- the term comes after the last one; its field isn't before that one's
abbrev pub term_comes : Option Term → List ℕ → List ℕ → Bool
term_comes None field bytes = true
term_comes (Some last) field bytes = text_lt last.field field || text_lt last.bytes bytes

-- The field and the bytes of a term. Where the field is that of the last term and the bytes don't
-- come after that one's, it is broken at the field.
unfoldable pub term_name_at : Option Term → List ℕ → Result (Term × List ℕ) ℕ
term_name_at last bytes = do
  field ← name_where (field_comes last) bytes
  text ← text_at field.1
  if term_comes last field.0 text.0 then Ok (record { field = field.0; bytes = text.0 }, text.1) else Err (length bytes)

-- a term, which has a row
unfoldable pub term_at : ℕ → Option Term → List ℕ → Result (TermPostings × List ℕ) ℕ
term_at n last bytes = do
  term ← term_name_at last bytes
  count ← number_where w32 (λ x. nat_le 1 x) term.1
  rows ← items_at (posting_at n) (λ (p : Posting). p.row + 1) 0 count.0 count.1
  Ok (record { term = term.0; rows = rows.0 }, rows.1)

-- the postings of the segment of this id, which has n rows
unfoldable pub posts_in : ℕ → ℕ → List ℕ → Result Postings ℕ
posts_in id n bytes = do
  rest ← mark_at posts_mark bytes
  own ← number_where w64 (λ x. x == id) rest
  rows ← number_where w32 (λ x. x == n) own.1
  count ← number_at w64 rows.1
  terms ← items_at (term_at n) (λ (entry : TermPostings). Some entry.term) None count.0 count.1
  ended (record { terms = terms.0 }) terms.1
