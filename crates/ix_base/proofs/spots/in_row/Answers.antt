use Rattle.std.proofs.Common.{◌≤◌, leb, get_or, rules, arith}
use Rattle.std.proofs.lemmas.Bool.{leb-true, leb-false}
use Rattle.std.proofs.lemmas.List.Sorted.{IsPartitionPoint-from_clause, IsPartitionedBy-leb}
use Rattle.ix_base.specs.declared.spots.Spot.{Spot}
use Rattle.ix_base.proofs.Searching.{here}
use Rattle.ix_base.proofs.spots.in_row.Goals as goal

pub returns : goal.returns
returns c =
    let spots = c.args.spots.now in
    let row = c.args.row in
    let end = c.partition_point-end.result in
    let point = IsPartitionPoint-from_clause (λ (s : Spot). leb s.row row) spots end c.partition_point-end.ensures.partitioned (IsPartitionedBy-leb (λ (s : Spot). s.row) spots row c.requires.by_row) (λ a r f k. search rules) in
    here row end spots c.partition_point-end.ensures.bound
    (λ k d from lt.
    let most : (get_or spots k d).row ≤ row = leb-true (get_or spots k d).row row (point.0 k d from lt) in
    let least : row ≤ (get_or spots k d).row = c.requires.from k d (omega arith) in
    omega arith)
    (λ k d from lt. leb-false (get_or spots k d).row row (point.1 k d from lt))
