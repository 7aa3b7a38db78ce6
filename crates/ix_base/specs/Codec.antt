-- Reading a number, a text or a name at the start of bytes: the value and the bytes after it. A
-- field is broken where it is cut short or breaks a rule; it is told by how many bytes are left
-- from its first byte on.
use Rattle.std.specs.Prelude.{◌≡◌, ℕ, zero, suc, ℤ, List, [], ◌∷◌, length, take, drop, Result, Ok, Err, nat_lt, if◌then◌else◌, ⊤}
use Rattle.std.specs.Int.{Width, w32, w64, byte_len, from_be_bytes, cast_signed}
use Rattle.std.specs.Str.{is_utf8}
use Rattle.ix_base.specs.Limits.{is_name}
use Rattle.ix_base.specs.declared.codec.BrokenField.{BrokenField}
use Rattle.ix_base.specs.declared.broken.Broken.{Broken}
use Rattle.ix_base.specs.declared.broken.Broken.TheVariants.{At, NoMemory}

-- one field after another: the second is read where the first stands
infixl 10 ◌>>=◌
abbrev pub ◌>>=◌ : {A B : Type 0} → Result A ℕ → (A → Result B ℕ) → Result B ℕ
(Ok x) >>= f = f x
(Err left) >>= f = Err left

-- what a function that takes no memory returned, seen by view, is what reading gives
abbrev pub GivesExactly : {X Y : Type 0} → (X → Y) → Result X BrokenField → Result Y ℕ → Type 0
GivesExactly view (Ok x) read = read ≡ Ok (view x)
GivesExactly view (Err field) read = read ≡ Err field.left

-- What a function returned, seen by view, is what reading gives, unless memory ran out.
abbrev pub Fails : {Y : Type 0} → Broken → Result Y ℕ → Type 0
Fails NoMemory read = ⊤
Fails (At left) read = read ≡ Err left

abbrev pub Gives : {X Y : Type 0} → (X → Y) → Result X Broken → Result Y ℕ → Type 0
Gives view (Ok x) read = read ≡ Ok (view x)
Gives view (Err e) read = Fails e read

-- one byte
abbrev pub byte_at : List ℕ → Result (ℕ × List ℕ) ℕ
byte_at [] = Err 0
byte_at (byte ∷ rest) = Ok (byte, rest)

-- a number in as many bytes as the width has
abbrev pub number_at : Width → List ℕ → Result (ℕ × List ℕ) ℕ
number_at w bytes = if nat_lt (length bytes) (byte_len w) then Err (length bytes) else Ok (from_be_bytes w (take (byte_len w) bytes), drop (byte_len w) bytes)

-- a signed number in eight bytes, in two's complement
unfoldable pub signed_at : List ℕ → Result (ℤ × List ℕ) ℕ
signed_at bytes = do
  n ← number_at w64 bytes
  Ok (cast_signed w64 n.0, n.1)

-- a length in four bytes and that many bytes of UTF-8
unfoldable pub text_at : List ℕ → Result (List ℕ × List ℕ) ℕ
text_at bytes = do
  n ← number_at w32 bytes
  if nat_lt (length n.1) n.0 then Err (length bytes) else (if is_utf8 (take n.0 n.1) then Ok (take n.0 n.1, drop n.0 n.1) else Err (length bytes))

-- a text of 1 to 255 bytes
unfoldable pub name_at : List ℕ → Result (List ℕ × List ℕ) ℕ
name_at bytes = do
  name ← text_at bytes
  if is_name name.0 then Ok name else Err (length bytes)

-- ---- so many items, of which each knows what the last one leaves to it

unfoldable pub items_at : {X S : Type 0} → (S → List ℕ → Result (X × List ℕ) ℕ) → (X → S) → S → ℕ
    → List ℕ → Result (List X × List ℕ) ℕ
items_at item leaves state zero bytes = Ok ([], bytes)
items_at item leaves state (suc n) bytes = do
  first ← item state bytes
  others ← items_at item leaves (leaves first.0) n first.1
  Ok (first.0 ∷ others.0, others.1)

-- what the items so far leave to the next one
abbrev pub left_by : {X S : Type 0} → (X → S) → S → List X → S
left_by leaves state [] = state
left_by leaves state (x ∷ xs) = left_by leaves (leaves x) xs
