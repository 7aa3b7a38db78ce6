use Rattle.std.proofs.Common.{◌≡◌, ◌∙◌, List, Ok, ap, rules, subst, sym}
use Rattle.std.specs.BTreeSet.{contains}
use Rattle.std.specs.Ordering.{nat_cmp}
use Rattle.ix_base.specs.declared.document.Row.{Row}
use Rattle.ix_outside.specs.Disk.{told_files}
use Rattle.live_docs.specs.Marks.{Marks, count_live}
use Rattle.segment_core.specs.LiveRows.{Lived}
use Rattle.segment_core.specs.Segments.{IsInverted}
use Rattle.segment_core.specs.declared.segment.Segment.{Segment}
use Rattle.commit_point.specs.SegmentReads.{SegmentRead}
use Rattle.index_check.specs.Difference.{IsOtherAt}
use Rattle.index_check.specs.Known.{Takes}
use Rattle.index_check.proofs.WereRead.{matched_none, ok_at, read_is, segment_there}
use Rattle.index_check.proofs.sound.live_of_new.Goals as goal

pub returns-clause-sound : goal.returns-clause-sound
returns-clause-sound g c = λ files told.
    let now = told_files (g.S.Store.disk c.args.store.now) in
    let seen = c.in-Some.read in
    let known = contains nat_cmp c.new-none.result in
    let read : c.read_segment.result ≡ Ok seen = read_is c.read_segment.result c.in_ok-read.field-0 seen c.in_ok-read.ensures.found c.in-Some.is in
    let here = ok_at c.read_segment.result seen (λ (x : Lived). SegmentRead now c.args.number known c.args.entry x) read c.read_segment.ensures.found in
    let inverted = matched_none c.in_ok-other_in.field-0 (IsInverted c.segment-segment.result.now) (IsOtherAt c.segment-segment.result.now) (sym c.if-is_some.ensures) c.in_ok-other_in.ensures in
    let rows = c.as_slice.ensures ∙ ap (λ (s : Segment). s.rows) c.segment-segment.ensures in
    segment_there now files c.args.number known c.args.entry seen c.args.known.now c.take.new.self c.live_count.result told (c.requires files told) here
    (subst IsInverted c.segment-segment.ensures inverted)
    (subst (λ (rs : List Row). Takes c.args.entry.id rs c.args.known.now c.take.new.self) rows (c.in_ok-take.ensures (search rules)))
    (c.live_count.ensures ∙ ap (λ (m : Marks). count_live m.marks) c.live.ensures.live)
