use Rattle.std.proofs.Common.{ap, get_or}
use Rattle.ix_outside.specs.Disk.{told_files}
use Rattle.store_answers.proofs.Listed.{breaks_same, first_broken, list_broken, list_is, list_whole}
use Rattle.store_answers.proofs.listing.list.Goals as goal

pub returns-in-Ok-clause-text : goal.returns-in-Ok-clause-text
returns-in-Ok-clause-text g c =
    list_is (told_files (g.S.Store.disk c.args.store.now)) (told_files (g.S.Store.disk c.list_commits.new.store)) c.in-Ok.numbers c.as_slice.result.now c.lines_of.result
    (ap told_files c.in-Ok.ensures.reads) c.as_slice.ensures c.in-Ok.ensures.commits c.in-Ok.ensures.rise c.lines_of.ensures.text

pub returns-in-Ok-clause-damaged : goal.returns-in-Ok-clause-damaged
returns-in-Ok-clause-damaged g c = λ damaged is.
    let breaks =
    breaks_same (told_files (g.S.Store.disk c.args.store.now)) (told_files (g.S.Store.disk c.list_commits.new.store)) c.in-Ok.numbers c.as_slice.result.now damaged
    (ap told_files c.in-Ok.ensures.reads) c.as_slice.ensures (c.lines_of.ensures.damaged damaged is) in
    (get_or c.in-Ok.numbers breaks.at 0, breaks.broken)

pub returns-in-Ok-clause-first : goal.returns-in-Ok-clause-first
returns-in-Ok-clause-first g c = λ files damaged told is.
    first_broken (told_files (g.S.Store.disk c.args.store.now)) c.in-Ok.numbers damaged files c.in-Ok.ensures.commits c.in-Ok.ensures.rise
    (breaks_same (told_files (g.S.Store.disk c.args.store.now)) (told_files (g.S.Store.disk c.list_commits.new.store)) c.in-Ok.numbers c.as_slice.result.now damaged
    (ap told_files c.in-Ok.ensures.reads) c.as_slice.ensures (c.lines_of.ensures.damaged damaged is)) told

pub returns-in-Ok-clause-broken : goal.returns-in-Ok-clause-broken
returns-in-Ok-clause-broken g c =
    list_broken (told_files (g.S.Store.disk c.args.store.now)) c.in-Ok.numbers c.lines_of.result c.in-Ok.ensures.commits c.in-Ok.ensures.rise
    (list_is (told_files (g.S.Store.disk c.args.store.now)) (told_files (g.S.Store.disk c.list_commits.new.store)) c.in-Ok.numbers c.as_slice.result.now c.lines_of.result
    (ap told_files c.in-Ok.ensures.reads) c.as_slice.ensures c.in-Ok.ensures.commits c.in-Ok.ensures.rise c.lines_of.ensures.text)
    (λ d e. breaks_same (told_files (g.S.Store.disk c.args.store.now)) (told_files (g.S.Store.disk c.list_commits.new.store)) c.in-Ok.numbers c.as_slice.result.now d
    (ap told_files c.in-Ok.ensures.reads) c.as_slice.ensures (c.lines_of.ensures.damaged d e))

pub returns-in-Ok-clause-whole : goal.returns-in-Ok-clause-whole
returns-in-Ok-clause-whole g c =
    list_whole (told_files (g.S.Store.disk c.args.store.now)) c.in-Ok.numbers c.lines_of.result c.in-Ok.ensures.commits c.in-Ok.ensures.rise
    (λ d e. breaks_same (told_files (g.S.Store.disk c.args.store.now)) (told_files (g.S.Store.disk c.list_commits.new.store)) c.in-Ok.numbers c.as_slice.result.now d
    (ap told_files c.in-Ok.ensures.reads) c.as_slice.ensures (c.lines_of.ensures.damaged d e))
