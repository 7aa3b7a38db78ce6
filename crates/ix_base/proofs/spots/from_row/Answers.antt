use Rattle.std.proofs.Common.{◌<◌, ◌≤◌, ◌+◌, ltb, length, get_or, rules, sym, subst, ap, ◌∙◌, arith}
use Rattle.std.specs.List.{All}
use Rattle.std.proofs.lemmas.Bool.{ltb-true, ltb-false}
use Rattle.std.proofs.lemmas.List.{take_rest, get_or-drop, length-drop}
use Rattle.std.proofs.lemmas.List.Sorted.{IsPartitionPoint-from_clause, IsPartitionedBy-ltb}
use Rattle.ix_base.specs.declared.spots.Spot.{Spot}
use Rattle.ix_base.specs.Grouped.{positions_at}
use Rattle.ix_base.proofs.Searching.{past}
use Rattle.ix_base.proofs.spots.from_row.Goals as goal

pub returns-clause-same : goal.returns-clause-same
returns-clause-same c =
    let spots = c.args.spots.now in
    let row = c.args.row in
    let start = c.partition_point-start.result in
    let point = IsPartitionPoint-from_clause (λ (s : Spot). ltb s.row row) spots start c.partition_point-start.ensures.partitioned (IsPartitionedBy-ltb (λ (s : Spot). s.row) spots row c.requires) (λ a r f k. search rules) in
    ap (positions_at row) (take_rest spots start)
    ∙ past row start spots c.partition_point-start.ensures.bound (λ k d from lt. ltb-true (get_or spots k d).row row (point.0 k d from lt))

pub returns-clause-from : goal.returns-clause-from
returns-clause-from c =
    let spots = c.args.spots.now in
    let row = c.args.row in
    let start = c.partition_point-start.result in
    let point = IsPartitionPoint-from_clause (λ (s : Spot). ltb s.row row) spots start c.partition_point-start.ensures.partitioned (IsPartitionedBy-ltb (λ (s : Spot). s.row) spots row c.requires) (λ a r f k. search rules) in
    subst (All (λ (s : Spot). row ≤ s.row)) (sym (take_rest spots start)) (λ k d lt.
    let on : start + k < length spots = omega (arith, length-drop start spots) in
    subst (λ (s : Spot). row ≤ s.row) (sym (get_or-drop start spots k d)) (ltb-false (get_or spots (start + k) d).row row (point.1 (start + k) d (omega arith) on)))
