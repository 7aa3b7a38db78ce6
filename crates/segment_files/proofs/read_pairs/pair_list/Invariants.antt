use Rattle.std.proofs.Common.{◌≡◌, ◌-◌, ℕ, List, Some, None}
use Rattle.ix_base.specs.Codec.{items_at}
use Rattle.segment_files.specs.Pairs.{pair_at}
use Rattle.ix_base.proofs.ReadLoops.{so_far}
use Rattle.segment_files.proofs.read_pairs.pair_list.Given as goal

abbrev pub invariant-loop : goal.invariant-loop
invariant-loop l =
    so_far pair_at (λ (pair : List ℕ × List ℕ). Some pair.0) None l.pairs.items (l.count - l.counter) l.rest
    ≡ items_at pair_at (λ (pair : List ℕ × List ℕ). Some pair.0) None l.count l.bytes
