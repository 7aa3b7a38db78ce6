-- Reading pairs of a name and a text, by rising names.
use Rattle.std.specs.Prelude.{ℕ, List, Option, Some, None, Result, Ok}
use Rattle.std.specs.Int.{w32}
use Rattle.ix_base.specs.Codec.{◌>>=◌, number_at, text_at, items_at}
use Rattle.ix_base.specs.FileReading.{name_where}
use Rattle.segment_files.specs.Fields.{comes_after}

-- a name and a text
unfoldable pub pair_at : Option (List ℕ) → List ℕ → Result ((List ℕ × List ℕ) × List ℕ) ℕ
pair_at last bytes = do
  name ← name_where (comes_after last) bytes
  text ← text_at name.1
  Ok ((name.0, text.0), text.1)

-- how many pairs there are, and then each of them
unfoldable pub pairs_at : List ℕ → Result (List (List ℕ × List ℕ) × List ℕ) ℕ
pairs_at bytes = do
  count ← number_at w32 bytes
  items_at pair_at (λ pair. Some pair.0) None count.0 count.1
