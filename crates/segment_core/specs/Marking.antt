-- What operations make of the marks of rows.
use Rattle.std.specs.Prelude.{ℕ, ℤ, zero, suc, List, [], ◌∷◌, Bool, false, if◌then◌else◌, nat_lt}
use Rattle.ix_base.specs.Births.{first_birth}
use Rattle.ix_base.specs.Matches.{matches, holds_term}
use Rattle.ix_base.specs.Query.{tree_of}
use Rattle.ix_base.specs.Documents.{Document}
use Rattle.ix_base.specs.declared.document.Row.{Row}
use Rattle.ix_base.specs.declared.document.Operation.{Operation}
use Rattle.ix_base.specs.declared.document.Operation.TheVariants.{Add, AddBlock, Update, UpdateBlock, DeleteTerm, DeleteQuery, SetNumber, Commit}
use Rattle.live_docs.specs.Marks.{killed, valued, changed_at}
use Rattle.live_docs.specs.declared.live_docs.Mark.{Mark}
use Rattle.row_fates.specs.Fate.{Numbered}
use Rattle.segment_core.specs.LiveRows.{with_numbers}

-- a mark with this number set where its row is live; no number is set in a row that isn't
abbrev pub valued_live : List ℕ → ℤ → Mark → Mark
valued_live name value m = if m.live then valued name value m else m

-- a document with the numbers that its row has now
abbrev pub now : Document → Mark → Document
now doc m = record doc { num = with_numbers m.values doc.num }

-- the documents of rows with the numbers that these have now
abbrev pub documents_now : List Row → List Mark → List Document
documents_now [] marks = []
documents_now (row ∷ rows) [] = []
documents_now (row ∷ rows) (m ∷ marks) = now row.doc m ∷ documents_now rows marks

-- what an operation makes of the mark of a row that stands when it comes
abbrev pub mark_effect : Operation → Document → Mark → Mark
mark_effect (Add added) doc m = m
mark_effect (AddBlock added) doc m = m
mark_effect (Update term added) doc m = if holds_term term.field term.bytes doc then killed m else m
mark_effect (UpdateBlock term added) doc m = if holds_term term.field term.bytes doc then killed m else m
mark_effect (DeleteTerm term) doc m = if holds_term term.field term.bytes doc then killed m else m
mark_effect (DeleteQuery query) doc m = if matches (tree_of query) (now doc m) then killed m else m
mark_effect (SetNumber term name value) doc m =
    if holds_term term.field term.bytes doc then valued_live name value m else m
mark_effect (Commit pairs) doc m = m

-- an operation acts only on rows that were born before it
abbrev pub mark_touched : Numbered → Row → Mark → Mark
mark_touched o row m = if nat_lt row.birth (first_birth o.0) then mark_effect o.1 row.doc m else m

-- each mark changed, by the row that it is of
abbrev pub with_rows : (Row → Mark → Mark) → List Row → List Mark → List Mark
with_rows change [] marks = marks
with_rows change (row ∷ rows) [] = []
with_rows change (row ∷ rows) (m ∷ marks) = change row m ∷ with_rows change rows marks

abbrev pub marks_touched : Numbered → List Row → List Mark → List Mark
marks_touched o = with_rows (mark_touched o)

-- the marks after operations, in order
abbrev pub marks_after : List Numbered → List Row → List Mark → List Mark
marks_after [] rows marks = marks
marks_after (o ∷ ops) rows marks = marks_after ops rows (marks_touched o rows marks)

-- ---- by the rows that were found

-- whether there is a row of this index, born before the operation of this number
abbrev pub born_before : ℕ → List Row → ℕ → Bool
born_before number [] i = false
born_before number (row ∷ rows) zero = nat_lt row.birth (first_birth number)
born_before number (row ∷ rows) (suc i) = born_before number rows i

-- the marks with that of one found row changed, if the row was born before the operation of this number
abbrev pub hit : ℕ → (Mark → Mark) → List Row → ℕ → List Mark → List Mark
hit number change rows i marks = if born_before number rows i then changed_at change i marks else marks

abbrev pub hits : ℕ → (Mark → Mark) → List Row → List ℕ → List Mark → List Mark
hits number change rows [] marks = marks
hits number change rows (i ∷ found) marks = hits number change rows found (hit number change rows i marks)
