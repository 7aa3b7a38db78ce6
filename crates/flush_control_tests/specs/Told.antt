-- A round of a test, told operation by operation.
use Rattle.std.specs.Prelude.{◌≡◌, ℕ, ◌≤◌, List, [], ◌∷◌}
use Rattle.ix_base.specs.Births.{last_birth}
use Rattle.ix_base.specs.declared.document.Operation.{Operation}
use Rattle.ix_base.specs.declared.document.Row.{Row}
use Rattle.node_words.specs.declared.entry.Entry.{Entry}
use Rattle.row_fates.specs.Fate.{Numbered, NumbersRise, BirthsRise, BornBy, added, rows_added}
use Rattle.frozen_packet.specs.Updates.{NumberedUpTo, Stands, as_operations, entry_for}
use Rattle.frozen_packet.specs.declared.updates.Updates.{Updates}
use Rattle.thread_writer.specs.declared.piece.Piece.{Piece}
use Rattle.flush_control.specs.Published.{HasInversion}
use Rattle.flush_control_tests.specs.declared.told.Told.{Told}

-- The rows are those that operations add, and the updates are the rest of what these do. The operations are numbered
-- above `base`, and `last` at most.
pub record AreTold (base last : ℕ) (rows : List Row) (updates : Updates) : Type 0 where
  pub ops : List Numbered
  pub rise : NumbersRise base ops
  pub up : NumberedUpTo last ops
  pub order : base ≤ last
  pub bounds : NumberedUpTo last (as_operations updates)
  pub stands : Stands updates ops
  pub rows_are : rows ≡ rows_added ops
  pub births : BirthsRise (last_birth base) rows
  pub born : BornBy last rows

abbrev pub IsTold : Told → Type 0
IsTold t = AreTold t.base t.last t.rows.items t.updates

-- the entry of an operation that adds no row
pub record AddsNone (e : Entry) : Type 0 where
  pub op : Operation
  pub is : entry_for op ≡ e
  pub none : (n : ℕ) → added n op ≡ []

-- There is one piece: of these rows, with no updates, and with this cut.
pub record IsPieceOf (rows : List Row) (cut : ℕ) (pieces : List Piece) : Type 0 where
  pub piece : Piece
  pub is : pieces ≡ piece ∷ []
  pub rows_are : piece.frozen.rows.items ≡ rows
  pub cut_is : piece.cut ≡ cut
  pub none : as_operations piece.updates ≡ []
  pub can : HasInversion piece
