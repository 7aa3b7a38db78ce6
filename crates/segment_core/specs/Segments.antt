-- Segments, and their rows.
use Rattle.std.specs.Prelude.{ℕ, List, map}
use Rattle.std.specs.List.{flat_map}
use Rattle.ix_base.specs.Documents.{Document}
use Rattle.ix_base.specs.Inversion.{IsInversion}
use Rattle.ix_base.specs.declared.document.Row.{Row}
use Rattle.segment_core.specs.declared.segment.Segment.{Segment}

-- the documents of rows
abbrev pub documents : List Row → List Document
documents rows = map (λ row. row.doc) rows

-- the postings of a segment are the inversion of its rows
abbrev pub IsInverted : Segment → Type 0
IsInverted segment = IsInversion (documents segment.rows) segment.postings

-- the rows of segments, one segment after another
abbrev pub all_rows : List Segment → List Row
all_rows segments = flat_map (λ (segment : Segment). segment.rows) segments

abbrev pub ids : List Segment → List ℕ
ids segments = map (λ (segment : Segment). segment.id) segments
