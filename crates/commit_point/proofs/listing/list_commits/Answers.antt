use Rattle.commit_point.proofs.CommitNumbers.{listed, counted}
use Rattle.ix_outside.specs.Disk.{told_files}
use Rattle.commit_point.proofs.listing.list_commits.Goals as goal

pub returns-in-Ok-clause-commits : goal.returns-in-Ok-clause-commits
returns-in-Ok-clause-commits g c = listed (told_files (g.S.Store.disk c.args.store.now)) c.in_ok-names.names.items c.deref.result.now c.in-Ok.numbers c.deref.ensures.value c.in_ok-names.ensures.names c.in-Ok.ensures.commits

pub returns-in-Ok-clause-counted : goal.returns-in-Ok-clause-counted
returns-in-Ok-clause-counted g c = counted c.in_ok-names.names.items c.deref.result.now c.in-Ok.numbers c.deref.ensures.value c.in_ok-names.ensures.real c.in-Ok.ensures.commits
