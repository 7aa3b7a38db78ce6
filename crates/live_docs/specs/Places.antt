-- Where the number of a name stands among a row's numbers, or would be put.
use Rattle.std.specs.Prelude.{◌≡◌, ℕ, ℤ, List, Result, Ok, Err, Some, None, slice_set, slice_index_or}
use Rattle.std.specs.List.{insert}
use Rattle.ix_base.specs.Steps.{Named}
use Rattle.live_docs.specs.Marks.{value_of}

-- the numbers with this one in place of that at a place, or put in there
abbrev pub placed : List ℕ → ℤ → List Named → Result ℕ ℕ → List Named
placed name value numbers (Ok i) = slice_set numbers i (name, value)
placed name value numbers (Err i) = insert numbers i (name, value)

-- the number of the name is read at the place, or there is none
abbrev pub IsReadAt : List ℕ → List Named → Result ℕ ℕ → Type 0
IsReadAt name numbers (Ok i) = (d : Named) → value_of name numbers ≡ Some (slice_index_or numbers i d).1
IsReadAt name numbers (Err i) = value_of name numbers ≡ None
