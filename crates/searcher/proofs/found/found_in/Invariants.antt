use Rattle.std.proofs.Common.{◌≡◌, take}
use Rattle.segment_core.specs.LiveRows.{all_live}
use Rattle.commit_point.specs.Holds.{AreInverted}
use Rattle.searcher.specs.Finding.{found_among}
use Rattle.searcher.proofs.found.found_in.Given as goal

abbrev pub invariant-loop-segment : goal.invariant-loop-segment
invariant-loop-segment l = AreInverted l.segments → l.found.items ≡ found_among l.query (all_live (take l.segment-index l.segments))
