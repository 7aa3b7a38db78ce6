use Rattle.std.proofs.Common.{◌≡◌, ◌-◌, ℕ, List, map, Some, None}
use Rattle.ix_base.specs.Codec.{items_at}
use Rattle.segment_files.specs.Fields.{field_at}
use Rattle.ix_base.proofs.ReadLoops.{so_far}
use Rattle.segment_files.proofs.read_documents.field_list.Given as goal

abbrev pub invariant-loop : goal.invariant-loop
invariant-loop l =
    so_far (field_at (map (λ pair. pair.0) l.taken)) (λ (pair : List ℕ × List ℕ). Some pair.0) None l.pairs.items (l.count - l.counter) l.rest
    ≡ items_at (field_at (map (λ pair. pair.0) l.taken)) (λ (pair : List ℕ × List ℕ). Some pair.0) None l.count l.bytes
