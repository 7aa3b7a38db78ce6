-- The file of a segment's rows, in other files that have it.
use Rattle.std.proofs.Common.{◌≡◌, ℕ, List, ◌∙◌}
use Rattle.ix_base.specs.declared.document.Row.{Row}
use Rattle.ix_base.specs.declared.file_name.FileName.TheVariants.{Rows}
use Rattle.ix_outside.specs.Files.{Files}
use Rattle.commit_point.specs.Holds.{HasRows}

pub rows_kept : (old new : Files) (id : ℕ) (rows : List Row) → new (Rows id) ≡ old (Rows id) → HasRows old id rows → HasRows new id rows
rows_kept old new id rows same has = record { bytes = has.bytes; file = same ∙ has.file; spells = has.spells }
