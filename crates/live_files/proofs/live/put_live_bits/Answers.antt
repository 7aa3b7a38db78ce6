use Rattle.live_files.specs.LiveSpelling.{live_bits}
use Rattle.live_files.proofs.LiveWrite.{one_byte}
use Rattle.live_files.proofs.live.put_live_bits.Goals as goal

pub loop-index-preserved : goal.loop-index-preserved
loop-index-preserved c = one_byte (live_bits c.args.live.now.marks) c.args.out.now.items c.loop-index.out.items c.push.new.self.items c.loop-index.index c.live_byte.result c.loop-index.invariant c.live_byte.ensures c.in_ok-push.ensures.items
