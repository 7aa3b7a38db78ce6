use Rattle.std.proofs.Common.{ap}
use Rattle.ix_outside.specs.Disk.{told_files}
use Rattle.commit_point.proofs.LiveReads.{bits_joined, values_joined}
use Rattle.commit_point.proofs.load.read_live.Goals as goal

pub returns-clause-bits : goal.returns-clause-bits
returns-clause-bits g c =
    bits_joined (told_files (g.S.Store.disk c.args.store.now)) c.args.entry c.args.number c.in_ok-bits.bits.items c.deref.result.now c.in_ok-values.values.items c.deref-2.result.now c.in_ok-live.live
    (record { same_bits = c.deref.ensures.value; same_values = c.deref-2.ensures.value; made = c.in_ok-live.ensures }) c.in_ok-bits.ensures.found

pub returns-clause-values : goal.returns-clause-values
returns-clause-values g c =
    values_joined (told_files (g.S.Store.disk c.args.store.now)) (told_files (g.S.Store.disk c.read_bits.new.store)) c.args.entry c.args.number c.in_ok-bits.bits.items c.deref.result.now c.in_ok-values.values.items c.deref-2.result.now
    c.in_ok-live.live (ap told_files c.in_ok-bits.ensures.reads) (record { same_bits = c.deref.ensures.value; same_values = c.deref-2.ensures.value; made = c.in_ok-live.ensures }) c.in_ok-bits.ensures.found c.in_ok-values.ensures.found
