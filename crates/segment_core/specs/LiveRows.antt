-- The live rows of a segment, and what updates make of them.
use Rattle.std.specs.Prelude.{◌≡◌, ◌≢◌, ℕ, ◌<◌, ◌^◌, List, [], ◌∷◌, true, Option, Some, None, length, if◌then◌else◌, nat_lt}
use Rattle.std.specs.List.{filter, flat_map, cons_option}
use Rattle.ix_base.specs.Inversion.{IsInversion}
use Rattle.ix_base.specs.Steps.{Named, with_number}
use Rattle.ix_base.specs.declared.document.Row.{Row}
use Rattle.ix_base.specs.declared.postings.Postings.{Postings}
use Rattle.live_docs.specs.Marks.{Marks}
use Rattle.live_docs.specs.declared.live_docs.Mark.{Mark}
use Rattle.row_fates.specs.Fate.{Numbered, renumbered, survivors}
use Rattle.frozen_packet.specs.Updates.{Stands}
use Rattle.frozen_packet.specs.declared.updates.Updates.{Updates}
use Rattle.segment_core.specs.Segments.{documents, IsInverted}
use Rattle.segment_core.specs.declared.segment.Segment.{Segment}

-- What contracts see of a live segment: the rows with their postings, and which rows are live.
pub record Lived : Type 0 where
  pub segment : Segment
  pub live : Marks

-- the second numbers with the first ones set in them
abbrev pub with_numbers : List Named → List Named → List Named
with_numbers [] numbers = numbers
with_numbers (v ∷ values) numbers = with_number v.0 v.1 (with_numbers values numbers)

-- a row with the numbers of its mark set in it; none where the mark says that the row isn't live
abbrev pub marked : Row → Mark → Option Row
marked row m = if m.live then Some (renumbered (with_numbers m.values row.doc.num) row) else None

-- The rows that are live, in their order, with the numbers that were set in them.
abbrev pub live_rows : List Row → List Mark → List Row
live_rows [] marks = []
live_rows (row ∷ rows) [] = []
live_rows (row ∷ rows) (m ∷ marks) = cons_option (marked row m) (live_rows rows marks)

-- there are as many marks as rows, and 32 bits can number them
pub record IsWhole (segment : Segment) (marks : Marks) : Type 0 where
  pub rows : length marks.marks ≡ length segment.rows
  pub few : length segment.rows < 2 ^ 32

-- the live rows of a segment
abbrev pub live : Lived → List Row
live s = live_rows s.segment.rows s.live.marks

-- the rows of segments, live or not, one segment after another
abbrev pub stored_rows : List Lived → List Row
stored_rows segments = flat_map (λ (s : Lived). s.segment.rows) segments

-- the live rows of segments, one segment after another
abbrev pub all_live : List Lived → List Row
all_live segments = flat_map live segments

-- ---- what updates make of them

-- the operations numbered above `low`
abbrev pub above : ℕ → List Numbered → List Numbered
above low ops = filter (λ (o : Numbered). nat_lt low o.0) ops

-- Whatever operations the updates stand for: the live rows are the fates of those before, under the
-- operations that are numbered above `low`.
abbrev pub Fated : ℕ → Updates → List Row → List Mark → List Mark → Type 0
Fated low updates rows before after = (ops : List Numbered) → Stands updates ops
    → live_rows rows after ≡ survivors (above low ops) (live_rows rows before)

-- since then the row was removed or not, but never brought back, and only numbers were set in it
abbrev pub MarkLater : Mark → Mark → Type 0
MarkLater m later =
    (later.live ≡ true → m.live ≡ true) × (sets : List Named)
    × (later.values ≡ with_numbers sets m.values)

-- The same of as many rows: none was brought back, and only numbers were set in them.
abbrev pub MarksLater : List Mark → List Mark → Type 0
MarksLater [] [] = Unit {0}
MarksLater [] (later ∷ laters) = ⊥
MarksLater (m ∷ marks) [] = ⊥
MarksLater (m ∷ marks) (later ∷ laters) = MarkLater m later × MarksLater marks laters

-- ---- a segment that is built

-- rows of which postings are an inversion, and that 32 bits can number
pub record CanBuild (rows : List Row) (postings : Postings) : Type 0 where
  pub inverted : IsInversion (documents rows) postings
  pub few : length rows < 2 ^ 32

-- A segment built of given rows, of this number, with updates in it up to `cut`: its live rows are the
-- fates of these rows, whatever operations the updates stand for, and at least one row is live.
pub record IsBuilt (given : List Row) (updates : Updates) (number cut : ℕ) (s : Lived) : Type 0 where
  pub id : s.segment.id ≡ number
  pub rows : s.segment.rows ≡ given
  pub inverted : IsInverted s.segment
  pub applied : s.live.applied ≡ cut
  pub some : live s ≢ []
  pub fates : (ops : List Numbered) → Stands updates ops → live s ≡ survivors ops given

-- What is built of rows: no segment exactly where no row survives.
abbrev pub Built : List Row → Updates → ℕ → ℕ → Option Lived → Type 0
Built rows updates id cut None = (ops : List Numbered) → Stands updates ops → survivors ops rows ≡ []
Built rows updates id cut (Some s) = IsBuilt rows updates id cut s
