-- Births: which rows an operation's documents become, and the order of rows.
use Rattle.std.specs.Prelude.{ℕ, zero, suc, ◌+◌, ◌*◌, ◌/◌, ◌%◌, List, [], ◌∷◌}
use Rattle.ix_base.specs.Documents.{Document}
use Rattle.ix_base.specs.declared.document.Row.{Row}

-- A birth is the number of an operation and a place among its documents, of which there are at most 64. It is seen as
-- one number, by which rows are ordered: first by the operation's number, and then by the place.
abbrev pub birth_of : ℕ → ℕ → ℕ
birth_of number place = number * 64 + place

abbrev pub number_of : ℕ → ℕ
number_of birth = birth / 64

abbrev pub place_of : ℕ → ℕ
place_of birth = birth % 64

-- the first and the last birth that belong to the operation of this number
abbrev pub first_birth : ℕ → ℕ
first_birth number = number * 64

abbrev pub last_birth : ℕ → ℕ
last_birth number = number * 64 + 63

-- the row of a document that the operation of this number adds alone
abbrev pub row_born : ℕ → Document → Row
row_born number doc = record { birth = first_birth number; doc = doc }

-- the rows of documents that are born one after another, from this birth on, of which so many have room
abbrev pub rows_from : ℕ → ℕ → List Document → List Row
rows_from room birth [] = []
rows_from zero birth (doc ∷ docs) = []
rows_from (suc room) birth (doc ∷ docs) = record { birth = birth; doc = doc } ∷ rows_from room (birth + 1) docs

-- the rows of a block: documents that the operation of this number adds together, 64 at most
abbrev pub block_rows : ℕ → List Document → List Row
block_rows number docs = rows_from 64 (first_birth number) docs
