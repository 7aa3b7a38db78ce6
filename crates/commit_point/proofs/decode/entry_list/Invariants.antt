use Rattle.std.proofs.Common.{◌≡◌, ◌-◌, ◌+◌}
use Rattle.commit_point.specs.declared.heads.HeadSegment.{HeadSegment}
use Rattle.ix_base.specs.Codec.{items_at, left_by}
use Rattle.commit_point.specs.Reading.{entry_at}
use Rattle.ix_base.proofs.ReadLoops.{so_far}
use Rattle.commit_point.proofs.decode.entry_list.Given as goal

abbrev pub invariant-loop : goal.invariant-loop
invariant-loop l = record {
  items : so_far (entry_at l.number l.next_id) (λ (e : HeadSegment). e.id + 1) 1 l.segments.items (l.count - l.counter) l.rest
      ≡ items_at (entry_at l.number l.next_id) (λ (e : HeadSegment). e.id + 1) 1 l.count l.bytes;
  last : l.last + 1 ≡ left_by (λ (e : HeadSegment). e.id + 1) 1 l.segments.items;
}
