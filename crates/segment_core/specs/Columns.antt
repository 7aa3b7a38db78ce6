-- Numbers that rows were stored with, by name.
use Rattle.std.specs.Prelude.{ℕ, ℤ, ◌+◌, ◌<◌, ◌^◌, List, [], ◌∷◌, Option, Some, None, IfSome, All, map, length, IsPermutation, IsSortedByKey, if◌then◌else◌}
use Rattle.std.specs.Ordering.{int_cmp}
use Rattle.ix_base.specs.Matches.{is_within, value_of}
use Rattle.ix_base.specs.declared.document.Row.{Row}
use Rattle.segment_core.specs.declared.column.Column.{Column}
use Rattle.segment_core.specs.declared.column.Entry.{Entry}
use Rattle.segment_core.specs.declared.columns.Columns.{Columns}

-- for each row the number of this name that it was stored with
abbrev pub numbers_of : List ℕ → List Row → List (Option ℤ)
numbers_of name rows = map (λ (row : Row). value_of name row.doc.num) rows

-- of rows of which this is the first, those whose number is in the bounds
abbrev pub within_from : ℕ → ℤ → ℤ → List (Option ℤ) → List ℕ
within_from row low high [] = []
within_from row low high (number ∷ numbers) =
    if is_within low high number then row ∷ within_from (row
    + 1) low high numbers else within_from (row + 1) low high numbers

-- of rows of which this is the first, those that have a number, with it
abbrev pub entries_from : ℕ → List (Option ℤ) → List Entry
entries_from row [] = []
entries_from row (None ∷ numbers) = entries_from (row + 1) numbers
entries_from row (Some number ∷ numbers) = record { number = number; row = row } ∷ entries_from (row + 1) numbers

-- the column has the numbers of its name that the rows were stored with, and they rise
pub record IsColumnOf (rows : List Row) (column : Column) : Type 0 where
  pub whole : length rows < 2 ^ 32 → IsPermutation (entries_from 0 (numbers_of column.name rows)) column.entries
  pub rise : IsSortedByKey (λ (e : Entry). e.number) int_cmp column.entries

-- each column has the numbers of its name that the rows were stored with
abbrev pub AreColumnsOf : List Row → Columns → Type 0
AreColumnsOf rows columns = All (IsColumnOf rows) columns.list

-- the columns, if there are some, have the numbers that the rows were stored with
abbrev pub HasColumnsOf : List Row → Option Columns → Type 0
HasColumnsOf rows columns = IfSome columns (λ (c : Columns). AreColumnsOf rows c)
