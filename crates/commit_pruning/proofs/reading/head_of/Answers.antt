use Rattle.ix_outside.specs.Disk.{told_files}
use Rattle.commit_pruning.proofs.Broken.{absent_broken, bytes_broken, head_found}
use Rattle.commit_pruning.proofs.reading.head_of.Goals as goal

pub returns-in-Ok-clause-found : goal.returns-in-Ok-clause-found
returns-in-Ok-clause-found g c files told =
    head_found (told_files (g.S.Store.disk c.args.store.now)) c.args.number c.in-Ok.bytes.items c.as_slice.result.now c.decoded.result c.as_slice.ensures.value c.in-Ok.ensures.bytes c.decoded.ensures.found files told

pub returns-in-Ok-clause-damaged : goal.returns-in-Ok-clause-damaged
returns-in-Ok-clause-damaged g c damaged is =
    bytes_broken (told_files (g.S.Store.disk c.args.store.now)) c.args.number c.in-Ok.bytes.items c.as_slice.result.now damaged c.as_slice.ensures.value c.in-Ok.ensures.bytes (c.decoded.ensures.damaged damaged is)

pub returns-in-Err-clause-damaged : goal.returns-in-Err-clause-damaged
returns-in-Err-clause-damaged g c damaged is =
    absent_broken (told_files (g.S.Store.disk c.args.store.now)) c.args.number damaged (c.in-Err.ensures.absent damaged cc)
