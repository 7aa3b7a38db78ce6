-- Reading a document, field by field.
use Rattle.std.specs.Prelude.{ℕ, ℤ, List, [], Bool, true, not, ◌&&◌, Option, Some, None, Result, Ok, map, codes}
use Rattle.std.specs.Int.{w32, w64}
use Rattle.std.specs.Str.{bytes_eq}
use Rattle.ix_base.specs.Codec.{◌>>=◌, number_at, signed_at, text_at, items_at}
use Rattle.ix_base.specs.FileReading.{name_where}
use Rattle.ix_base.specs.Limits.{text_lt, is_among}
use Rattle.ix_base.specs.Documents.{Document}

-- the name comes after the last one, where there was one
abbrev pub comes_after : Option (List ℕ) → List ℕ → Bool
comes_after None name = true
comes_after (Some last) name = text_lt last name

-- no document has a field that is called as its key is
abbrev pub is_key : List ℕ → Bool
is_key name = bytes_eq name (codes "key")

-- no document has a name in both of its lists of texts
abbrev pub is_free_name : List (List ℕ) → List ℕ → Bool
is_free_name taken name = not (is_key name) && not (is_among taken name)

abbrev pub may_name : List (List ℕ) → Option (List ℕ) → List ℕ → Bool
may_name taken last name = comes_after last name && is_free_name taken name

-- a name and a text
unfoldable pub field_at : List (List ℕ) → Option (List ℕ) → List ℕ → Result ((List ℕ × List ℕ) × List ℕ) ℕ
field_at taken last bytes = do
  name ← name_where (may_name taken last) bytes
  text ← text_at name.1
  Ok ((name.0, text.0), text.1)

-- fields by rising names, of which none is taken
unfoldable pub fields_at : List (List ℕ) → List ℕ → Result (List (List ℕ × List ℕ) × List ℕ) ℕ
fields_at taken bytes = do
  count ← number_at w32 bytes
  items_at (field_at taken) (λ pair. Some pair.0) None count.0 count.1

-- a name and a number
unfoldable pub numbered_at : Option (List ℕ) → List ℕ → Result ((List ℕ × ℤ) × List ℕ) ℕ
numbered_at last bytes = do
  name ← name_where (comes_after last) bytes
  value ← signed_at name.1
  Ok ((name.0, value.0), value.1)

unfoldable pub numbers_at : List ℕ → Result (List (List ℕ × ℤ) × List ℕ) ℕ
numbers_at bytes = do
  count ← number_at w64 bytes
  items_at numbered_at (λ pair. Some pair.0) None count.0 count.1

unfoldable pub document_at : List ℕ → Result (Document × List ℕ) ℕ
document_at bytes = do
  key ← text_at bytes
  text ← fields_at [] key.1
  exact ← fields_at (map (λ pair. pair.0) text.0) text.1
  num ← numbers_at exact.1
  Ok (record { key = key.0; text = text.0; exact = exact.0; num = num.0 }, num.1)
