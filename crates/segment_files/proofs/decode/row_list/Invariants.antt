use Rattle.std.proofs.Common.{◌≡◌, ◌-◌, ◌+◌}
use Rattle.std.specs.BTreeSet.{contains}
use Rattle.std.specs.Ordering.{nat_cmp}
use Rattle.ix_base.specs.declared.document.Row.{Row}
use Rattle.ix_base.specs.Births.{first_birth}
use Rattle.ix_base.specs.Codec.{items_at, left_by}
use Rattle.segment_files.specs.Reading.{row_at}
use Rattle.ix_base.proofs.ReadLoops.{so_far}
use Rattle.segment_files.proofs.decode.row_list.Given as goal

abbrev pub invariant-loop : goal.invariant-loop
invariant-loop l = record {
  items : so_far (row_at l.format l.number (contains nat_cmp l.earlier)) (λ (r : Row). r.birth + 1) (first_birth 1) l.rows.items (l.count - l.counter) l.rest
      ≡ items_at (row_at l.format l.number (contains nat_cmp l.earlier)) (λ (r : Row). r.birth + 1) (first_birth 1) l.count l.bytes;
  last : l.last + 1 ≡ left_by (λ (r : Row). r.birth + 1) (first_birth 1) l.rows.items;
}
