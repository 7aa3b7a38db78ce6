use Rattle.std.proofs.Common.{◌≡◌, ◌-◌, ◌+◌}
use Rattle.ix_base.specs.Codec.{items_at, left_by}
use Rattle.ix_base.proofs.ReadLoops.{so_far}
use Rattle.ix_base.specs.declared.postings.Posting.{Posting}
use Rattle.segment_files.specs.Reading.{posting_at}
use Rattle.segment_files.proofs.Chains.{AllRowsBelow}
use Rattle.segment_files.proofs.read_places.places_of.Given as goal

abbrev pub invariant-loop : goal.invariant-loop
invariant-loop l = record {
  items : so_far (posting_at l.row_count) (λ (p : Posting). p.row + 1) 0 l.spots (l.count - l.counter) l.rest
      ≡ items_at (posting_at l.row_count) (λ (p : Posting). p.row + 1) 0 l.count l.bytes;
  low : l.low ≡ left_by (λ (p : Posting). p.row + 1) 0 l.spots;
  below : AllRowsBelow l.low l.spots;
}
