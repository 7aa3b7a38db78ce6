-- What a buffer of documents holds before it is a segment.
use Rattle.std.specs.Prelude.{ℕ, zero, suc, ◌+◌, List, [], ◌∷◌, ◌++◌, Option, Some, None}
use Rattle.ix_base.specs.Documents.{Document}
use Rattle.ix_base.specs.declared.document.Row.{Row}

-- A document that was staged, and its birth, once the operation that adds it has its number. A
-- document that never gets one is void: it keeps its place, and is in no row.
pub record Staged : Type 0 where
  pub doc : Document
  pub birth : Option ℕ

-- a document that waits for its birth
abbrev pub waiting : Document → Staged
waiting doc = record { doc = doc; birth = None }

-- the row of a document that was born
abbrev pub row_of : Document → Option ℕ → List Row
row_of doc None = []
row_of doc (Some birth) = record { birth = birth; doc = doc } ∷ []

-- the rows of those that were born, in the order of their places
abbrev pub born_rows : List Staged → List Row
born_rows [] = []
born_rows (s ∷ rest) = row_of s.doc s.birth ++ born_rows rest

-- from the place on, so many documents get the births one after another, the first one this birth
abbrev pub with_births : List Staged → ℕ → ℕ → ℕ → List Staged
with_births [] place count birth = []
with_births (s ∷ rest) (suc place) count birth = s ∷ with_births rest place count birth
with_births (s ∷ rest) zero zero birth = s ∷ rest
with_births (s ∷ rest) zero (suc count) birth =
    record { doc = s.doc; birth = Some birth } ∷ with_births rest zero count (birth + 1)
