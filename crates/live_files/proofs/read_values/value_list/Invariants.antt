use Rattle.std.proofs.Common.{◌≡◌, ◌-◌, Some, None}
use Rattle.ix_base.specs.Codec.{items_at}
use Rattle.ix_base.proofs.ReadLoops.{so_far}
use Rattle.live_files.specs.LiveReading.{value_at}
use Rattle.live_files.specs.LiveSpelling.{SetValue}
use Rattle.live_files.proofs.read_values.value_list.Given as goal

abbrev pub invariant-loop : goal.invariant-loop
invariant-loop l =
    so_far (value_at l.row_count) (λ (x : SetValue). Some x) None l.values.items (l.count - l.counter) l.rest
    ≡ items_at (value_at l.row_count) (λ (x : SetValue). Some x) None l.count l.bytes
