use Rattle.std.proofs.Common.{refl}
use Rattle.ix_outside.specs.Disk.{told_files}
use Rattle.commit_point.proofs.Telling.{head_is_found, head_only_it, head_is_broken, head_whole}
use Rattle.commit_point.proofs.open.listed_head.Goals as goal

pub returns-clause-found : goal.returns-clause-found
returns-clause-found g c = head_is_found (told_files (g.S.Store.disk c.args.store.now)) (told_files (g.S.Store.disk c.args.store.now)) c.args.number c.read_head.result refl c.read_head.ensures.found

pub returns-clause-only : goal.returns-clause-only
returns-clause-only g c =
    head_only_it (told_files (g.S.Store.disk c.args.store.now)) c.args.number c.read_head.result
    (head_is_found (told_files (g.S.Store.disk c.args.store.now)) (told_files (g.S.Store.disk c.args.store.now)) c.args.number c.read_head.result refl c.read_head.ensures.found)

pub returns-clause-whole : goal.returns-clause-whole
returns-clause-whole g c =
    head_whole (told_files (g.S.Store.disk c.args.store.now)) c.args.number c.read_head.result
    (λ d e. head_is_broken (told_files (g.S.Store.disk c.args.store.now)) (told_files (g.S.Store.disk c.args.store.now)) c.args.number d refl (c.read_head.ensures.damaged d e)) c.read_head.ensures.listed

pub returns-clause-damaged : goal.returns-clause-damaged
returns-clause-damaged g c d e =
    head_is_broken (told_files (g.S.Store.disk c.args.store.now)) (told_files (g.S.Store.disk c.args.store.now)) c.args.number d refl (c.read_head.ensures.damaged d e)
