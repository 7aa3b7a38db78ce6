use Rattle.std.proofs.Common.{rules, ◌≡◌, true}
use Rattle.ix_outside.specs.Disk.{is_same}
use Rattle.ix_memory.specs.History.{leaves_step}
use Rattle.ix_memory.proofs.Looks.{at_written, at_synced, at_renamed, at_spoilt}
use Rattle.ix_memory.proofs.left.look.Goals as goal

pub returns-in-Wrote : goal.returns-in-Wrote
returns-in-Wrote c older count =
    let same : is_same c.args.name c.in-Wrote.at ≡ true = search rules in
    at_written c.args.step.now older c.args.steps c.args.bytes c.args.name c.in-Wrote.at _ _ c.in-Wrote.is same (rw (← c.as_slice.ensures) (c.look_written.ensures older))

pub returns-in-Synced : goal.returns-in-Synced
returns-in-Synced c older count =
    let same : is_same c.args.name c.in-Synced.at ≡ true = search rules in
    at_synced c.args.step.now older c.args.steps c.args.bytes c.args.name c.in-Synced.at c.in-Synced.is same

pub returns-in-Renamed : goal.returns-in-Renamed
returns-in-Renamed c older count =
    let leaves : leaves_step c.args.steps c.args.before ≡ true = search rules in
    at_renamed c.args.step.now older c.args.steps c.args.bytes c.args.name c.in-Renamed.«from» c.in-Renamed.to _ c.in-Renamed.is (rw count leaves) (c.look_renamed.ensures older)

pub returns-in-Spoilt : goal.returns-in-Spoilt
returns-in-Spoilt c older count =
    let same : is_same c.args.name c.in-Spoilt.at ≡ true = search rules in
    at_spoilt c.args.step.now older c.args.steps c.args.bytes c.args.name c.in-Spoilt.at _ _ c.in-Spoilt.is same (c.look_spoilt.ensures older)
