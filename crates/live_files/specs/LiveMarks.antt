-- The marks of rows, of their live bits and of the numbers that were set in them.
use Rattle.std.specs.Prelude.{ℕ, ◌+◌, List, [], ◌∷◌, Bool, map, ◌==◌, if◌then◌else◌}
use Rattle.ix_base.specs.Steps.{Named}
use Rattle.live_docs.specs.declared.live_docs.Mark.{Mark}
use Rattle.live_files.specs.LiveSpelling.{SetValue}

-- set numbers without their rows
abbrev pub unrowed : List SetValue → List Named
unrowed values = map (λ (x : SetValue). (x.1, x.2)) values

-- of set numbers, those at the front that are in this row
abbrev pub own_values : ℕ → List SetValue → List Named
own_values row [] = []
own_values row (x ∷ values) = if x.0 == row then (x.1, x.2) ∷ own_values row values else []

-- the set numbers after those
abbrev pub other_values : ℕ → List SetValue → List SetValue
other_values row [] = []
other_values row (x ∷ values) = if x.0 == row then other_values row values else x ∷ values

-- the marks of rows of which this is the first
abbrev pub marks_from : ℕ → List Bool → List SetValue → List Mark
marks_from row [] values = []
marks_from row (bit ∷ bits) values =
    record { live = bit; values = own_values row values } ∷ marks_from (row + 1) bits (other_values row values)

-- The marks of rows, by their live bits and by the numbers that were set in them, which stand by row.
abbrev pub marks_of : List Bool → List SetValue → List Mark
marks_of bits values = marks_from 0 bits values
