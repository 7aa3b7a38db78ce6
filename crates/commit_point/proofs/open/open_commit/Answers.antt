use Rattle.std.proofs.Common.{◌≡◌, None, not, ap, ◌∙◌}
use Rattle.ix_outside.specs.Disk.{told_files}
use Rattle.ix_base.specs.declared.file_name.FileName.TheVariants.{Commit}
use Rattle.commit_point.proofs.Telling.{not_there, none_said, there_said}
use Rattle.commit_point.proofs.open.open_commit.Goals as goal

pub returns-then-not-branch-clause-whole : goal.returns-then-not-branch-clause-whole
returns-then-not-branch-clause-whole g c files next entries segments told h =
    let none : files (Commit c.args.number) ≡ None = not_there (told_files (g.S.Store.disk c.args.store.now)) c.args.number c.in_ok-is_listed.field-0 (ap not c.if-not-branch.true) c.in_ok-is_listed.ensures.told files told in
    let some = h.head.file in
    absurd cc

pub returns-then-not-branch-clause-no_such : goal.returns-then-not-branch-clause-no_such
returns-then-not-branch-clause-no_such g c = none_said (told_files (g.S.Store.disk c.args.store.now)) c.args.number c.in_ok-is_listed.field-0 (ap not c.if-not-branch.true) c.in_ok-is_listed.ensures.told

pub returns-clause-only : goal.returns-clause-only
returns-clause-only g c files next entries segments told h = c.read_commit.ensures.only files next entries segments ((ap told_files c.is_listed.ensures.reads) ∙ told) h

pub returns-clause-whole : goal.returns-clause-whole
returns-clause-whole g c files next entries segments told h = c.read_commit.ensures.whole files next entries segments ((ap told_files c.is_listed.ensures.reads) ∙ told) h

pub returns-clause-no_such : goal.returns-clause-no_such
returns-clause-no_such g c = there_said (told_files (g.S.Store.disk c.args.store.now)) c.args.number c.in_ok-is_listed.field-0 c.read_commit.result (ap not c.if-not-branch.false) c.in_ok-is_listed.ensures.told c.read_commit.ensures.listed
