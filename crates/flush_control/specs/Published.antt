-- The segments of an index, and what pieces and a packet make of them.
use Rattle.std.specs.Prelude.{◌≡◌, ◌==◌, ◌⊎◌, ℕ, ◌+◌, ◌≤◌, List, [], ◌∷◌, ◌++◌, false, None, IfSome, ⊤}
use Rattle.std.specs.List.{AllByRecursion, list_any}
use Rattle.ix_base.specs.declared.document.Row.{Row}
use Rattle.frozen_packet.specs.declared.packet.Packet.{Packet}
use Rattle.packet_apply.specs.Packets.{Applied}
use Rattle.segment_core.specs.LiveRows.{Lived, CanBuild, Built, IsBuilt}
use Rattle.segment_core.specs.Births.{SegmentsApart}
use Rattle.commit_point.specs.Holds.{AreRowsOf, AreInverted}
use Rattle.commit_point.specs.Writing.{CanWrite, SegmentIdsRise}
use Rattle.merge_core.specs.Merging.{Sources}
use Rattle.merge_core.specs.Reading.{HasRead}
use Rattle.merge_core.specs.declared.merge.Merge.{Merge}
use Rattle.thread_writer.specs.declared.piece.Piece.{Piece}
use Rattle.flush_control.specs.declared.published.Published.{Published}

-- no id stands twice
abbrev pub IdsDiffer : List ℕ → Type 0
IdsDiffer [] = ⊤
IdsDiffer (id ∷ ids) = (list_any (λ x. x == id) ids ≡ false) × IdsDiffer ids

-- A merge runs: its sources stand in the list, and it has read a number of their rows.
pub record IsRunning (segments : List Lived) (m : Merge) : Type 0 where
  pub apart : IdsDiffer m.ids.items
  pub sources : List Lived
  pub found : Sources segments m.ids.items sources
  pub count : ℕ
  pub read : HasRead m sources count

-- Segments that a commit of their number can list: each can be in it, ids rise below the next one, and no operation has
-- rows in two of them. Where a merge runs, its sources are among them.
pub record IsPublished (p : Published) : Type 0 where
  pub can : AllByRecursion (CanWrite p.upto) p.segments
  pub ids : SegmentIdsRise 1 p.next_id p.segments
  pub some_id : 1 ≤ p.next_id
  pub apart : SegmentsApart p.segments
  pub running : IfSome p.merge (IsRunning p.segments)

-- The segments' live rows are these, by birth, and the postings of each segment are the inversion of its rows.
pub record StandsFor (p : Published) (rows : List Row) : Type 0 where
  pub rows_are : AreRowsOf p.upto p.segments rows
  pub inverted : AreInverted p.segments

-- ---- pieces

-- the rows of a piece have their inversion
abbrev pub HasInversion : Piece → Type 0
HasInversion p = CanBuild p.frozen.rows.items p.frozen.postings

-- The segments built of pieces, which take ids from this one on, up to below the next: one for each piece of which its
-- updates leave a row, in their order.
abbrev pub AreBuilt : List Piece → ℕ → List Lived → ℕ → Type 0
AreBuilt [] id made next = (made ≡ []) × (next ≡ id)
AreBuilt (p ∷ ps) id made next =
    (Built p.frozen.rows.items p.updates id p.cut None × AreBuilt ps id made next)
    ⊎ ((s : Lived) × (rest : List Lived) × (made ≡ s ∷ rest) × IsBuilt p.frozen.rows.items p.updates id p.cut s
    × AreBuilt ps (id + 1) rest next)

-- The segments that were built of pieces stand after the old ones.
pub record TakesPieces (pieces : List Piece) (old new : Published) : Type 0 where
  pub made : List Lived
  pub built : AreBuilt pieces old.next_id made new.next_id
  pub segments : new.segments ≡ old.segments ++ made
  pub upto : new.upto ≡ old.upto
  pub merge : new.merge ≡ old.merge

-- ---- a packet

-- each segment with the packet applied: its rows and postings stay
abbrev pub AreApplied : Packet → List Lived → List Lived → Type 0
AreApplied packet [] [] = ⊤
AreApplied packet [] (new ∷ news) = ⊥
AreApplied packet (old ∷ olds) [] = ⊥
AreApplied packet (old ∷ olds) (new ∷ news) =
    (new.segment ≡ old.segment) × Applied packet old new.live × AreApplied packet olds news

-- The packet was applied to all segments.
pub record AppliesUp (packet : Packet) (old new : Published) : Type 0 where
  pub applied : AreApplied packet old.segments new.segments
  pub next_id : new.next_id ≡ old.next_id
  pub upto : new.upto ≡ packet.upto
  pub merge : new.merge ≡ old.merge
