-- The live bits and set values of a segment's rows.
use Rattle.std.specs.Prelude.{◌≡◌, ◌≢◌, ℕ, zero, suc, ◌+◌, ℤ, List, [], ◌∷◌, Bool, true, false, ◌&&◌, Option, Some, None, length, map, if◌then◌else◌}
use Rattle.std.specs.Bool.{beq}
use Rattle.std.specs.List.{filter, AllByRecursion}
use Rattle.std.specs.Ordering.{int_eq}
use Rattle.std.specs.Str.{bytes_eq}
use Rattle.ix_base.specs.Limits.{names_rise}
pub use Rattle.ix_base.specs.Matches.{value_of}
use Rattle.ix_base.specs.Steps.{Named, with_number}
use Rattle.live_docs.specs.declared.live_docs.Mark.{Mark}

-- What contracts see of live docs: up to which number operations are in them, and a mark for each
-- row, which says whether it is live and which numbers were set in it.
pub record Marks : Type 0 where
  pub applied : ℕ
  pub marks : List Mark

-- a mark of a row that is live and in which no number was set
abbrev pub fresh : Mark
fresh = record { live = true; values = [] }

-- the mark of a row that is live or isn't, with these numbers set
abbrev pub mark_with : Bool → List Named → Mark
mark_with live values = record { live = live; values = values }

-- the mark of a row that is no longer live
abbrev pub killed : Mark → Mark
killed m = record m { live = false }

-- a mark with this number set
abbrev pub valued : List ℕ → ℤ → Mark → Mark
valued name value m = record m { values = with_number name value m.values }

-- the marks with that of one row changed
abbrev pub changed_at : (Mark → Mark) → ℕ → List Mark → List Mark
changed_at change i [] = []
changed_at change zero (m ∷ marks) = change m ∷ marks
changed_at change (suc i) (m ∷ marks) = m ∷ changed_at change i marks

-- how many rows are live
abbrev pub count_live : List Mark → ℕ
count_live marks = length (filter (λ (m : Mark). m.live) marks)

-- the names of each row's numbers rise
abbrev pub RowsNamesRise : List Mark → Type 0
RowsNamesRise marks = AllByRecursion (λ (m : Mark). names_rise (map (λ number. number.0) m.values) ≡ true) marks

-- whether there are numbers among these
abbrev pub has_numbers : List Named → Bool
has_numbers [] = false
has_numbers (n ∷ ns) = true

-- of rows of which this is the first, those in which numbers were set
abbrev pub numbered_from : ℕ → List Mark → List ℕ
numbered_from row [] = []
numbered_from row (m ∷ marks) =
    if has_numbers m.values then row ∷ numbered_from (row + 1) marks else numbered_from (row
    + 1) marks

-- the rows in which numbers were set, in order
abbrev pub numbered_rows : List Mark → List ℕ
numbered_rows marks = numbered_from 0 marks

-- What was set last by a name is read by it, and the numbers by other names stay.
pub record SetsOne (name : List ℕ) (value : ℤ) (values : List Named) : Type 0 where
  pub set : value_of name (with_number name value values) ≡ Some value
  pub others : (other : List ℕ) → other ≢ name → value_of other (with_number name value values) ≡ value_of other values

-- Set numbers are a map from names to numbers.
abbrev pub SetNumbersAreAMap : Type 0
SetNumbersAreAMap = (name : List ℕ) (value : ℤ) (values : List Named) → SetsOne name value values

-- ---- whether they are the same

-- the same numbers by the same names
abbrev pub same_numbers : List Named → List Named → Bool
same_numbers [] [] = true
same_numbers [] (n ∷ ns) = false
same_numbers (m ∷ ms) [] = false
same_numbers (m ∷ ms) (n ∷ ns) = bytes_eq m.0 n.0 && (int_eq m.1 n.1 && same_numbers ms ns)

-- both rows are live or neither is, with the same numbers set
abbrev pub same_mark : Mark → Mark → Bool
same_mark m n = beq m.live n.live && same_numbers m.values n.values

-- as many rows, and each of them the same
abbrev pub same_marks : List Mark → List Mark → Bool
same_marks [] [] = true
same_marks [] (n ∷ ns) = false
same_marks (m ∷ ms) [] = false
same_marks (m ∷ ms) (n ∷ ns) = same_mark m n && same_marks ms ns
