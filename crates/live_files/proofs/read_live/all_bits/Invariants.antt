use Rattle.std.proofs.Common.{◌≡◌, take}
use Rattle.std.specs.List.{flat_map}
use Rattle.live_files.specs.LiveReading.{byte_bits}
use Rattle.live_files.proofs.read_live.all_bits.Given as goal

abbrev pub invariant-loop-byte : goal.invariant-loop-byte
invariant-loop-byte l = l.bits.items ≡ flat_map byte_bits (take l.byte-index l.bytes)
