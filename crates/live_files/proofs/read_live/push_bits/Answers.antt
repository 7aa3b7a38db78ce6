use Rattle.std.proofs.Common.{◌++◌}
use Rattle.live_files.specs.LiveReading.{byte_bits}
use Rattle.live_files.proofs.Bits.{one_bit, no_bit_left, first_bits}
use Rattle.live_files.proofs.read_live.push_bits.Goals as goal

pub loop-init : goal.loop-init
loop-init c = first_bits c.args.bits.now.items c.args.byte

pub loop-preserved : goal.loop-preserved
loop-preserved c = rw c.in_ok-push.ensures.items (one_bit c.loop.bits.items (c.args.bits.now.items ++ byte_bits c.args.byte) 8 c.loop.counter c.loop.number c.loop-test.true c.loop.invariant)

pub returns : goal.returns
returns c = no_bit_left c.loop.bits.items (c.args.bits.now.items ++ byte_bits c.args.byte) 8 c.loop.counter c.loop.number c.loop-test.false c.loop.invariant
