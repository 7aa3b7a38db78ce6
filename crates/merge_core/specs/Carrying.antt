-- What looking at one row does to the order of rows.
use Rattle.std.specs.Prelude.{◌≡◌, ℕ, ◌+◌, ◌<◌, List, [], ◌∷◌, ◌++◌, Bool, true, false, Some, length, set, slice_get, slice_index, slice_index_or, if◌then◌else◌}
use Rattle.ix_base.specs.declared.document.Row.{Row}
use Rattle.live_docs.specs.Marks.{fresh, killed}
use Rattle.live_docs.specs.declared.live_docs.Mark.{Mark}
use Rattle.segment_core.specs.LiveRows.{Lived}
use Rattle.merge_core.specs.Merging.{row_count}
use Rattle.merge_core.specs.Reading.{HasSeen}
use Rattle.merge_core.specs.declared.order.Order.{Order}
use Rattle.merge_core.specs.declared.origin.Origin.{Origin}

-- the mark of a row; past the end one that isn't live
abbrev pub mark_in : Lived → ℕ → Mark
mark_in s j = slice_index_or s.live.marks j (killed fresh)

-- The next row of a source can be looked at: there is one.
pub record CanTake (m : Order) (s : Lived) (source : ℕ) : Type 0 where
  pub source_is : source < length m.next.items
  pub row : Row
  pub is : slice_get s.segment.rows (slice_index m.next.items source) ≡ Some row

-- A row was looked at: its place was kept where its mark says that it is live.
pub record Takes (old new : Order) (m : Mark) (o : Origin) : Type 0 where
  pub next : new.next.items ≡ set old.next.items o.source (o.row + 1)
  pub origins : new.origins.items ≡ (if m.live then old.origins.items ++ o ∷ [] else old.origins.items)

-- the next row of the source at this place was looked at
abbrev pub TakesNext : Order → Order → Lived → ℕ → Type 0
TakesNext old new s source = (row : Row) → slice_get s.segment.rows (slice_index old.next.items source) ≡ Some row
    → Takes old new (mark_in s (slice_index old.next.items source))
    (record { source = source; row = slice_index old.next.items source })

-- one more row was looked at, or there was none
abbrev pub ReadOne : Order → List Lived → ℕ → Bool → Type 0
ReadOne m sources count true = HasSeen m sources (count + 1)
ReadOne m sources count false = HasSeen m sources count × (count ≡ row_count sources)
