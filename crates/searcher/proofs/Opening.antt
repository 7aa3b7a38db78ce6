-- What is read of a commit can be searched.
use Rattle.std.proofs.Common.{◌≡◌, ◌∙◌, ℕ, List, ap, subst, sym}
use Rattle.ix_base.specs.declared.document.Row.{Row}
use Rattle.ix_outside.specs.Files.{Files}
use Rattle.segment_core.specs.LiveRows.{Lived}
use Rattle.commit_point.specs.declared.heads.HeadSegment.{HeadSegment}
use Rattle.commit_point.specs.declared.open.Opened.{Opened}
use Rattle.commit_point.specs.Holds.{HasSegments, HoldsInverted}
use Rattle.commit_point.proofs.SegmentLaws.{one_segments}
use Rattle.searcher.specs.Searching.{Searches}

-- the segments that the files hold, searched
searches_held : (files : Files) (s next : ℕ) (rows : List Row) (holds : HoldsInverted files s next rows) → Searches holds.holds.segments rows
searches_held files s next rows holds = record {
  number = s;
  rows_are = holds.holds.rows_are;
  inverted = holds.inverted;
}

-- the segments that the files spell, searched
pub searches_spelled : (files : Files) (s next : ℕ) (rows : List Row) (opened : Opened) → HoldsInverted files s next rows
    → HasSegments files s opened.next_id opened.entries opened.segments → Searches opened.segments rows
searches_spelled files s next rows opened holds has =
    let same = one_segments files s opened.next_id next opened.entries holds.holds.entries opened.segments holds.holds.segments has holds.holds.spelled in
    subst (λ (gs : List Lived). Searches gs rows) (sym same.0) (searches_held files s next rows holds)

-- the same of a commit that was read of them
pub searches_opened : (files : Files) (s next : ℕ) (rows : List Row) (holds : HoldsInverted files s next rows) (opened : Opened) (segments : List Lived)
    → opened ≡ record { number = s; next_id = next; entries = holds.holds.entries; segments = holds.holds.segments }
    → segments ≡ opened.segments → Searches segments rows
searches_opened files s next rows holds opened segments is same =
    subst (λ (gs : List Lived). Searches gs rows) (sym (same ∙ ap (λ (o : Opened). o.segments) is)) (searches_held files s next rows holds)
