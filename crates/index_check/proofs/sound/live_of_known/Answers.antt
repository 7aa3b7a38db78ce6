use Rattle.std.proofs.Common.{◌≡◌, Ok}
use Rattle.ix_outside.specs.Disk.{told_files}
use Rattle.live_docs.specs.Marks.{Marks}
use Rattle.live_files.specs.LiveSpelling.{live_bits, values_of}
use Rattle.commit_point.specs.SegmentReads.{BitsRead, ValuesRead}
use Rattle.index_check.proofs.WereRead.{live_there, ok_at, read_is}
use Rattle.index_check.proofs.sound.live_of_known.Goals as goal

pub returns-in-Some-clause-sound : goal.returns-in-Some-clause-sound
returns-in-Some-clause-sound g c = λ files told.
    let now = told_files (g.S.Store.disk c.args.store.now) in
    let live = c.in-Some.live in
    let read : c.read_live.result ≡ Ok live = read_is c.read_live.result c.in_ok-live.field-0 live c.in_ok-live.ensures.found c.in-Some.is in
    live_there now files c.args.number c.args.known.now c.args.entry live c.live_count.result told (c.requires.known files told) c.requires.here
    (ok_at c.read_live.result live (λ (m : Marks). m.applied ≡ c.args.number) read c.read_live.ensures.applied)
    (ok_at c.read_live.result live (λ (m : Marks). BitsRead now c.args.entry (live_bits m.marks)) read c.read_live.ensures.bits)
    (ok_at c.read_live.result live (λ (m : Marks). ValuesRead now c.args.entry (values_of m.marks)) read c.read_live.ensures.values)
    c.live_count.ensures
