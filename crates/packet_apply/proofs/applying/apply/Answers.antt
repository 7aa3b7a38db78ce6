use Rattle.packet_apply.proofs.Putting.{applied}
use Rattle.packet_apply.proofs.applying.apply.Goals as goal

pub returns : goal.returns
returns c =
    applied c.args.packet.now c.args.segment.now c.live.result.now c.segment.result.now c.in_ok-live.live c.apply_updates.new.live c.set_applied.new.self c.applied-low.result
    c.live.ensures.live c.segment.ensures c.in_ok-live.ensures c.applied-low.ensures c.in_ok-apply_updates.ensures.whole c.in_ok-apply_updates.ensures.later c.in_ok-apply_updates.ensures.fates c.set_applied.ensures
