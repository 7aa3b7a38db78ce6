-- How numbers and texts stand in bytes, the highest byte of a number first.
use Rattle.std.specs.Prelude.{◌≡◌, ℕ, ℤ, ◌<◌, ◌^◌, List, ◌++◌, true, length, get_or}
use Rattle.std.specs.Int.{w32, w64, to_be_bytes, cast_unsigned}
use Rattle.std.specs.Str.{IsUtf8}
use Rattle.ix_base.specs.Limits.{is_name}

-- what a list of bytes holds: numbers below 256
abbrev pub AreBytes : List ℕ → Type 0
AreBytes bytes = (i : ℕ) → get_or bytes i 0 < 256

-- a number in four bytes
unfoldable pub be32 : ℕ → List ℕ
be32 n = to_be_bytes w32 n

-- a number in eight bytes
unfoldable pub be64 : ℕ → List ℕ
be64 n = to_be_bytes w64 n

-- a signed number in eight bytes, in two's complement
unfoldable pub signed64 : ℤ → List ℕ
signed64 z = to_be_bytes w64 (cast_unsigned w64 z)

-- a text's length in four bytes, and its bytes
abbrev pub text_bytes : List ℕ → List ℕ
text_bytes text = be32 (length text) ++ text

-- what stands so: bytes of UTF-8 whose number four bytes hold
pub record IsText (text : List ℕ) : Type 0 where
  pub utf8 : IsUtf8 text
  pub short : length text < 2 ^ 32

-- a name is a text of 1 to 255 bytes
pub record IsName (name : List ℕ) : Type 0 where
  pub utf8 : IsUtf8 name
  pub fits : is_name name ≡ true
