use Rattle.std.proofs.Common.{ℕ, ltb, rules}
use Rattle.std.proofs.lemmas.List.Sorted.{IsPartitionPoint-from_clause, IsPartitionedBy-ltb}
use Rattle.index_run.proofs.Counting.{counted_by, rise_by}
use Rattle.index_run.proofs.outcomes.docs_of.Goals as goal

pub bounds-commits-at : goal.bounds-commits-at
bounds-commits-at c =
    let commits = c.args.commits.now in
    let n = c.args.number in
    let (low, rise) = c.requires.rise in
    let parted = IsPartitionedBy-ltb (λ (p : ℕ × ℕ). p.0) commits n (rise_by low commits rise) in
    (counted_by low commits n c.partition_point-at.result rise c.requires.there c.partition_point-at.ensures.bound
    (IsPartitionPoint-from_clause (λ (p : ℕ × ℕ). ltb p.0 n) commits c.partition_point-at.result
    c.partition_point-at.ensures.partitioned parted (λ a r f k. search rules))).0

pub returns : goal.returns
returns c =
    let commits = c.args.commits.now in
    let n = c.args.number in
    let (low, rise) = c.requires.rise in
    let parted = IsPartitionedBy-ltb (λ (p : ℕ × ℕ). p.0) commits n (rise_by low commits rise) in
    (counted_by low commits n c.partition_point-at.result rise c.requires.there c.partition_point-at.ensures.bound
    (IsPartitionPoint-from_clause (λ (p : ℕ × ℕ). ltb p.0 n) commits c.partition_point-at.result
    c.partition_point-at.ensures.partitioned parted (λ a r f k. search rules))).1 (0, 0)
