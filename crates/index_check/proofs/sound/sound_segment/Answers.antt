use Rattle.index_check.specs.Known.{IsSoundNow, IsSoundSegment, owner_of}
use Rattle.index_check.proofs.Passed.{still_known}
use Rattle.index_check.proofs.WereRead.{ok_some}
use Rattle.index_check.proofs.sound.sound_segment.Goals as goal

pub returns-then-has-clause-sound : goal.returns-then-has-clause-sound
returns-then-has-clause-sound g c = λ files told.
    let known = c.args.known.now in
    ok_some c.live_of_known.result (IsSoundSegment files c.args.number (owner_of known) c.args.entry) (IsSoundNow files c.args.number c.args.entry known known)
    (λ n sound. still_known files c.args.number c.args.entry known n (c.requires files told) (c.has.ensures c.if-has.true) sound)
    (c.live_of_known.ensures.sound files told)
