use Rattle.std.proofs.Common.{◌≡◌, false, take}
use Rattle.live_files.specs.LiveFits.{has_bit}
use Rattle.live_files.proofs.read_live.has_bit.Given as goal

abbrev pub invariant-loop-bit : goal.invariant-loop-bit
invariant-loop-bit l = has_bit (take l.bit-index l.bits) ≡ false
