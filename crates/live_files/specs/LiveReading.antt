-- What is read of live bits and of set numbers, field by field, or the first broken field.
use Rattle.std.specs.Prelude.{ℕ, zero, suc, ◌+◌, ◌/◌, ◌%◌, List, [], ◌∷◌, length, take, drop, Bool, true, not, ◌&&◌, Option, Some, None, Result, Ok, Err, nat_lt, nat_le, ◌==◌, if◌then◌else◌}
use Rattle.std.specs.Int.{w32, w64}
use Rattle.std.specs.List.{flat_map}
use Rattle.ix_base.specs.Codec.{◌>>=◌, number_at, signed_at, name_at, items_at}
use Rattle.ix_base.specs.FileReading.{number_where, mark_at, ended}
use Rattle.live_files.specs.LiveSpelling.{live_mark, values_mark, byte_count, SetValue}
use Rattle.live_files.specs.LiveFits.{has_bit, is_before}

-- ---- live rows

-- so many bits of a number, the lowest first
abbrev pub low_bits : ℕ → ℕ → List Bool
low_bits zero number = []
low_bits (suc n) number = (number % 2 == 1) ∷ low_bits n (number / 2)

-- the eight bits of a byte
unfoldable pub byte_bits : ℕ → List Bool
byte_bits byte = low_bits 8 byte

-- So many bytes, of which each is a field: cut short, they are broken where the first missing one would be, at the end.
unfoldable pub bytes_at : ℕ → List ℕ → Result (List ℕ × List ℕ) ℕ
bytes_at n bytes = if nat_lt (length bytes) n then Err 0 else Ok (take n bytes, drop n bytes)

-- The bits of n rows. Where all are 0, the first of the bytes is broken; else the last one, where a
-- bit past the last row is 1.
unfoldable pub bits_at : ℕ → List ℕ → Result (List Bool × List ℕ) ℕ
bits_at n bytes = do
  found ← bytes_at (byte_count n) bytes
  if not (has_bit (flat_map byte_bits found.0)) then Err (length bytes) else
      (if has_bit (drop n (flat_map byte_bits found.0)) then Err (length found.1
      + 1) else Ok (take n (flat_map byte_bits found.0), found.1))

-- the live bits of the segment of this id, which has n rows, written with the commit v
unfoldable pub live_in : ℕ → ℕ → ℕ → List ℕ → Result (List Bool) ℕ
live_in id v n bytes = do
  rest ← mark_at live_mark bytes
  own ← number_where w64 (λ x. x == id) rest
  commit ← number_where w64 (λ x. x == v) own.1
  rows ← number_where w32 (λ x. x == n) commit.1
  bits ← bits_at n rows.1
  ended bits.0 bits.1

-- ---- set numbers

-- the row isn't before that of the last number, where there was one
abbrev pub row_comes : Option SetValue → ℕ → Bool
row_comes None row = true
row_comes (Some last) row = nat_le last.0 row

-- the row and the name come after those of the last number
abbrev pub value_comes : Option SetValue → ℕ → List ℕ → Bool
value_comes None row name = true
value_comes (Some last) row name = is_before last.0 last.1 row name

-- A row and a name. Where the row is that of the last number and the name doesn't come after that one's, it is broken
-- at the row.
unfoldable pub value_name_at : ℕ → Option SetValue → List ℕ → Result ((ℕ × List ℕ) × List ℕ) ℕ
value_name_at n last bytes = do
  row ← number_where w32 (λ x. row_comes last x && nat_lt x n) bytes
  name ← name_at row.1
  if value_comes last row.0 name.0 then Ok ((row.0, name.0), name.1) else Err (length bytes)

-- a number that was set in one of n rows
unfoldable pub value_at : ℕ → Option SetValue → List ℕ → Result (SetValue × List ℕ) ℕ
value_at n last bytes = do
  named ← value_name_at n last bytes
  number ← signed_at named.1
  Ok ((named.0.0, named.0.1, number.0), number.1)

-- the numbers that were set in the segment of this id, which has n rows, written with the commit v
unfoldable pub values_in : ℕ → ℕ → ℕ → List ℕ → Result (List SetValue) ℕ
values_in id v n bytes = do
  rest ← mark_at values_mark bytes
  own ← number_where w64 (λ x. x == id) rest
  commit ← number_where w64 (λ x. x == v) own.1
  rows ← number_where w32 (λ x. x == n) commit.1
  count ← number_at w64 rows.1
  values ← items_at (value_at n) (λ (x : SetValue). Some x) None count.0 count.1
  ended values.0 values.1
