use Rattle.std.proofs.Common.{◌≡◌, ◌∙◌, ◌-◌, List, true, false, int_lt, int_le, length, take, drop, rules, ap, sym, subst, arith}
use Rattle.std.specs.List.Sorted.{IsPartitionedBy, IsPartitionPoint}
use Rattle.std.proofs.lemmas.List.{take_rest}
use Rattle.std.proofs.lemmas.List.Sorted.{IsPartitionPoint-from_clause}
use Rattle.segment_core.specs.declared.column.Entry.{Entry}
use Rattle.segment_core.proofs.Halving.{parted_below, parted_upto, picked}
use Rattle.segment_core.proofs.column.entries_within.Goals as goal

pub returns : goal.returns
returns c = λ up.
    let entries = c.args.entries.now in
    let low = c.args.low.now in
    let high = c.args.high.now in
    let start = c.partition_point-start.result in
    let end = c.partition_point-end.result in
    let rest : List Entry = take (length entries - start) (drop start entries) in
    let same : rest ≡ drop start entries = take_rest entries start in
    let first = IsPartitionPoint-from_clause (λ (e : Entry). int_lt e.number low) entries start c.partition_point-start.ensures.partitioned (parted_below entries low up) (λ a r f k. search rules) in
    let parted = subst (IsPartitionedBy (λ (e : Entry). int_le e.number high)) (sym same) (parted_upto entries start high up) in
    let second = subst (λ (es : List Entry). IsPartitionPoint (λ (e : Entry). int_le e.number high ≡ true) (λ (e : Entry). int_le e.number high ≡ false) es end) same
    (IsPartitionPoint-from_clause (λ (e : Entry). int_le e.number high) rest end c.partition_point-end.ensures.partitioned parted (λ a r f k. search rules)) in
    ap (take end) same
    ∙ picked low high entries start end (λ k d lt on. first.0 k d (omega arith) lt) first.1 (λ k d lt on. second.0 k d (omega arith) lt) second.1
