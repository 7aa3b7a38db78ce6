use Rattle.std.proofs.Common.{◌≡◌, ◌-◌, ℕ, List, Some, None}
use Rattle.std.specs.Prelude.{ℤ}
use Rattle.ix_base.specs.Codec.{items_at}
use Rattle.segment_files.specs.Fields.{numbered_at}
use Rattle.ix_base.proofs.ReadLoops.{so_far}
use Rattle.segment_files.proofs.read_documents.number_list.Given as goal

abbrev pub invariant-loop : goal.invariant-loop
invariant-loop l =
    so_far numbered_at (λ (pair : List ℕ × ℤ). Some pair.0) None l.pairs.items (l.count - l.counter) l.rest
    ≡ items_at numbered_at (λ (pair : List ℕ × ℤ). Some pair.0) None l.count l.bytes
