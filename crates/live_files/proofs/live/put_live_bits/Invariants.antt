use Rattle.std.proofs.Common.{◌≡◌, ◌++◌}
use Rattle.live_files.specs.LiveSpelling.{bytes_of_bits, live_bits}
use Rattle.live_files.proofs.live.put_live_bits.Given as goal

abbrev pub invariant-loop-index : goal.invariant-loop-index
invariant-loop-index l = l.out.items ≡ l.fn.out.items ++ bytes_of_bits l.index (live_bits l.live.marks)
