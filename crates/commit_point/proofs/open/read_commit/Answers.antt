use Rattle.commit_point.proofs.Opening.{only_it, whole_is_read}
use Rattle.ix_outside.specs.Disk.{told_files}
use Rattle.commit_point.proofs.open.read_commit.Goals as goal

pub returns-clause-only : goal.returns-clause-only
returns-clause-only g c = only_it (told_files (g.S.Store.disk c.args.store.now)) c.args.number c.read_whole.result c.read_whole.ensures.number c.read_whole.ensures.found

pub returns-clause-whole : goal.returns-clause-whole
returns-clause-whole g c = whole_is_read (told_files (g.S.Store.disk c.args.store.now)) c.args.number c.read_whole.result c.read_whole.ensures.damaged c.read_whole.ensures.listed
