use Rattle.std.proofs.Common.{◌≡◌, None, not, ap}
use Rattle.ix_outside.specs.Disk.{told_files}
use Rattle.ix_base.specs.declared.file_name.FileName.TheVariants.{Commit}
use Rattle.commit_point.proofs.Telling.{not_there, none_said, there_said, head_is_found, head_only_it, head_is_broken, head_whole}
use Rattle.commit_point.proofs.open.head.Goals as goal

pub returns-then-not-branch-clause-whole : goal.returns-then-not-branch-clause-whole
returns-then-not-branch-clause-whole g c files head told h =
    let none : files (Commit c.args.number) ≡ None = not_there (told_files (g.S.Store.disk c.args.store.now)) c.args.number c.in_ok-is_listed.field-0 (ap not c.if-not-branch.true) c.in_ok-is_listed.ensures.told files told in
    let some = h.file in
    absurd cc

pub returns-then-not-branch-clause-no_such : goal.returns-then-not-branch-clause-no_such
returns-then-not-branch-clause-no_such g c = none_said (told_files (g.S.Store.disk c.args.store.now)) c.args.number c.in_ok-is_listed.field-0 (ap not c.if-not-branch.true) c.in_ok-is_listed.ensures.told

pub returns-clause-found : goal.returns-clause-found
returns-clause-found g c = head_is_found (told_files (g.S.Store.disk c.args.store.now)) (told_files (g.S.Store.disk c.is_listed.new.store)) c.args.number c.read_head.result (ap told_files c.is_listed.ensures.reads) c.read_head.ensures.found

pub returns-clause-only : goal.returns-clause-only
returns-clause-only g c =
    head_only_it (told_files (g.S.Store.disk c.args.store.now)) c.args.number c.read_head.result
    (head_is_found (told_files (g.S.Store.disk c.args.store.now)) (told_files (g.S.Store.disk c.is_listed.new.store)) c.args.number c.read_head.result (ap told_files c.is_listed.ensures.reads) c.read_head.ensures.found)

pub returns-clause-whole : goal.returns-clause-whole
returns-clause-whole g c =
    head_whole (told_files (g.S.Store.disk c.args.store.now)) c.args.number c.read_head.result
    (λ d e. head_is_broken (told_files (g.S.Store.disk c.args.store.now)) (told_files (g.S.Store.disk c.is_listed.new.store)) c.args.number d (ap told_files c.is_listed.ensures.reads) (c.read_head.ensures.damaged d e)) c.read_head.ensures.listed

pub returns-clause-damaged : goal.returns-clause-damaged
returns-clause-damaged g c d e =
    head_is_broken (told_files (g.S.Store.disk c.args.store.now)) (told_files (g.S.Store.disk c.is_listed.new.store)) c.args.number d (ap told_files c.is_listed.ensures.reads) (c.read_head.ensures.damaged d e)

pub returns-clause-no_such : goal.returns-clause-no_such
returns-clause-no_such g c = there_said (told_files (g.S.Store.disk c.args.store.now)) c.args.number c.in_ok-is_listed.field-0 c.read_head.result (ap not c.if-not-branch.false) c.in_ok-is_listed.ensures.told c.read_head.ensures.listed
