-- The rows that a run adds, and their documents.
use Rattle.std.specs.Prelude.{◌≡◌, ℕ, List, [], map}
use Rattle.ix_base.specs.Documents.{Document}
use Rattle.ix_base.specs.Steps.{after}
use Rattle.ix_base.specs.declared.document.Row.{Row}
use Rattle.ix_base.specs.declared.document.Operation.{Operation}
use Rattle.report_text.specs.Born.{born_after}
use Rattle.row_fates.specs.Fate.{BornBy}

-- the documents of rows, without the rows' births
abbrev pub documents : List Row → List Document
documents rows = map (λ (row : Row). row.doc) rows

-- Of the rows after operations those that these added are what the operations make of no rows.
abbrev pub BornLater : Type 0
BornLater = (rows : List Row) (base : ℕ) (ops : List Operation) → BornBy base rows
    → born_after base (after rows base ops) ≡ after [] base ops
