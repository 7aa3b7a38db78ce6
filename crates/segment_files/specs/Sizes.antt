-- How much of a room is left behind bytes that aren't made.
use Rattle.std.specs.Prelude.{◌≡◌, ℕ, ◌+◌, ◌<◌, List, length, Option, Some, None}
use Rattle.std.specs.List.{flat_map}
use Rattle.ix_base.specs.declared.document.Row.{Row}
use Rattle.ix_base.specs.declared.postings.Postings.{Postings}
use Rattle.segment_files.specs.Spelling.{row, term_postings}

-- What is left of so many bytes behind a part of this size: none exactly where the part is larger.
abbrev pub Leaves : ℕ → ℕ → Option ℕ → Type 0
Leaves room size None = room < size
Leaves room size (Some left) = left + size ≡ room

-- how many bytes rows take in a file
abbrev pub rows_size : List Row → ℕ
rows_size rows = length (flat_map row rows)

-- how many bytes postings take in a file
abbrev pub postings_size : Postings → ℕ
postings_size postings = length (flat_map term_postings postings.terms)
