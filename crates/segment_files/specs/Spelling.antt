-- The bytes of a segment's files. Numbers are written with the highest byte first.
use Rattle.std.specs.Prelude.{◌≡◌, ◌⊎◌, ℕ, ℤ, List, ◌++◌, length, codes}
use Rattle.std.specs.List.{flat_map, AllByRecursion}
use Rattle.ix_base.specs.Births.{number_of, place_of}
use Rattle.ix_base.specs.Spelling.{be32, be64, signed64, text_bytes}
use Rattle.ix_base.specs.Documents.{Document}
use Rattle.ix_base.specs.declared.document.Row.{Row}
use Rattle.ix_base.specs.declared.postings.Posting.{Posting}
use Rattle.ix_base.specs.declared.postings.TermPostings.{TermPostings}
use Rattle.ix_base.specs.declared.postings.Postings.{Postings}

-- ---- rows

-- what a file of rows begins with, in the first form and in the second one
unfoldable pub old_rows_mark : List ℕ
old_rows_mark = codes "IXROW001"

unfoldable pub rows_mark : List ℕ
rows_mark = codes "IXROW002"

abbrev pub field : List ℕ × List ℕ → List ℕ
field pair = text_bytes pair.0 ++ text_bytes pair.1

abbrev pub fields : List (List ℕ × List ℕ) → List ℕ
fields pairs = be32 (length pairs) ++ flat_map field pairs

abbrev pub number_bytes : List ℕ × ℤ → List ℕ
number_bytes pair = text_bytes pair.0 ++ signed64 pair.1

abbrev pub numbers_bytes : List (List ℕ × ℤ) → List ℕ
numbers_bytes pairs = be64 (length pairs) ++ flat_map number_bytes pairs

abbrev pub document : Document → List ℕ
document doc = text_bytes doc.key ++ (fields doc.text ++ (fields doc.exact ++ numbers_bytes doc.num))

-- a row: the number and the place of its birth, and its document
abbrev pub row : Row → List ℕ
row r = be64 (number_of r.birth) ++ (be32 (place_of r.birth) ++ document r.doc)

-- the rows of the segment of this id
abbrev pub rows_file : ℕ → List Row → List ℕ
rows_file id rows = rows_mark ++ (be64 id ++ (be32 (length rows) ++ flat_map row rows))

-- the same in the first form, in which no places stand
abbrev pub old_row : Row → List ℕ
old_row r = be64 (number_of r.birth) ++ document r.doc

abbrev pub old_rows_file : ℕ → List Row → List ℕ
old_rows_file id rows = old_rows_mark ++ (be64 id ++ (be32 (length rows) ++ flat_map old_row rows))

-- each of these rows is of the first document of its operation, or of the only one
abbrev pub AllFirst : List Row → Type 0
AllFirst rows = AllByRecursion (λ (r : Row). place_of r.birth ≡ 0) rows

-- The bytes spell the rows of the segment of this id: in the second form, or in the first one, where each place is 0.
abbrev pub SpellsRows : ℕ → List Row → List ℕ → Type 0
SpellsRows id rows bytes = (bytes ≡ rows_file id rows) ⊎ (AllFirst rows × (bytes ≡ old_rows_file id rows))

-- ---- postings

-- what a file of postings begins with
unfoldable pub posts_mark : List ℕ
posts_mark = codes "IXPST001"

-- a row that holds a term, and the positions
abbrev pub posting : Posting → List ℕ
posting p = be32 p.row ++ (be32 (length p.positions) ++ flat_map be32 p.positions)

abbrev pub term_postings : TermPostings → List ℕ
term_postings entry =
    text_bytes entry.term.field
    ++ (text_bytes entry.term.bytes ++ (be32 (length entry.rows) ++ flat_map posting entry.rows))

-- the postings of the segment of this id, which has n rows
abbrev pub posts_file : ℕ → ℕ → Postings → List ℕ
posts_file id n postings =
    posts_mark ++ (be64 id
    ++ (be32 n ++ (be64 (length postings.terms) ++ flat_map term_postings postings.terms)))
