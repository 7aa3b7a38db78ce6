use Rattle.std.proofs.Common.{◌≡◌, ◌-◌, ◌++◌}
use Rattle.live_files.specs.LiveReading.{low_bits, byte_bits}
use Rattle.live_files.proofs.read_live.push_bits.Given as goal

abbrev pub invariant-loop : goal.invariant-loop
invariant-loop l = l.bits.items ++ low_bits (8 - l.counter) l.number ≡ l.fn.bits.items ++ byte_bits l.byte
