use Rattle.std.proofs.Common.{◌≡◌, take}
use Rattle.ix_base.specs.Counts.{doc_count}
use Rattle.segment_core.specs.LiveRows.{all_live}
use Rattle.commit_point.specs.Encoding.{AreWhole}
use Rattle.commit_point.proofs.prepare.live_rows.Given as goal

abbrev pub invariant-loop-segment : goal.invariant-loop-segment
invariant-loop-segment l = record {
  rows : l.count ≡ doc_count (all_live (take l.segment-index l.segments));
  whole : AreWhole (take l.segment-index l.segments);
}
