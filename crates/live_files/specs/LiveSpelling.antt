-- The bytes of the files that say which rows of a segment are live, and which numbers were set in its rows.
use Rattle.std.specs.Prelude.{ℕ, zero, suc, ◌+◌, ◌*◌, ◌/◌, ℤ, List, [], ◌∷◌, ◌++◌, Bool, length, map, take, drop, codes, if◌then◌else◌}
use Rattle.std.specs.List.{flat_map}
use Rattle.ix_base.specs.Spelling.{be32, be64, signed64, text_bytes}
use Rattle.ix_base.specs.Steps.{Named}
use Rattle.live_docs.specs.declared.live_docs.Mark.{Mark}

-- ---- live rows

-- what a file of live bits begins with
unfoldable pub live_mark : List ℕ
live_mark = codes "IXLIV001"

-- the number that these are the bits of, the lowest bit first
abbrev pub bit_value : List Bool → ℕ
bit_value [] = 0
bit_value (bit ∷ bits) = (if bit then 1 else 0) + 2 * bit_value bits

-- how many bytes hold so many bits
abbrev pub byte_count : ℕ → ℕ
byte_count n = (n + 7) / 8

-- so many bytes, of which each holds the next eight bits; a bit that isn't there is 0
abbrev pub bytes_of_bits : ℕ → List Bool → List ℕ
bytes_of_bits zero bits = []
bytes_of_bits (suc n) bits = bit_value (take 8 bits) ∷ bytes_of_bits n (drop 8 bits)

-- eight bits a byte, in as many bytes as it takes
abbrev pub live_bytes : List Bool → List ℕ
live_bytes bits = bytes_of_bits (byte_count (length bits)) bits

-- The live bits of the segment of this id, written with the commit v: one bit for each row, which
-- is 1 where the row lives.
abbrev pub live_file : ℕ → ℕ → List Bool → List ℕ
live_file id v bits = live_mark ++ (be64 id ++ (be64 v ++ (be32 (length bits) ++ live_bytes bits)))

-- whether each row lives
abbrev pub live_bits : List Mark → List Bool
live_bits marks = map (λ (m : Mark). m.live) marks

-- ---- set numbers

-- what a file of set numbers begins with
unfoldable pub values_mark : List ℕ
values_mark = codes "IXVAL001"

-- a number that was set in a row: the row, its name, and the number
abbrev pub SetValue : Type 0
SetValue = ℕ × List ℕ × ℤ

abbrev pub value_bytes : SetValue → List ℕ
value_bytes x = be32 x.0 ++ (text_bytes x.1 ++ signed64 x.2)

-- The numbers that were set in the rows of the segment of this id, which has n rows, written with the commit v.
abbrev pub values_file : ℕ → ℕ → ℕ → List SetValue → List ℕ
values_file id v n values =
    values_mark ++ (be64 id ++ (be64 v ++ (be32 n ++ (be64 (length values) ++ flat_map value_bytes values))))

-- the numbers of one row
abbrev pub row_values : ℕ → List Named → List SetValue
row_values row numbers = map (λ (number : Named). (row, number.0, number.1)) numbers

-- the numbers of rows of which this is the first
abbrev pub values_from : ℕ → List Mark → List SetValue
values_from row [] = []
values_from row (m ∷ marks) = row_values row m.values ++ values_from (row + 1) marks

-- the numbers of all rows, by row
abbrev pub values_of : List Mark → List SetValue
values_of marks = values_from 0 marks
