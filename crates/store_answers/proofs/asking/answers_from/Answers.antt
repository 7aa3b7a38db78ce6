use Rattle.std.proofs.Common.{ap, Err}
use Rattle.ix_outside.specs.Disk.{told_files}
use Rattle.commit_point.specs.declared.fault.OpenFault.{OpenFault}
use Rattle.store_answers.proofs.Answering.{breaks, searches_read, spelled_whole}
use Rattle.store_answers.proofs.asking.answers_from.Goals as goal

pub returns-in-Ok-answers-clause-text : goal.returns-in-Ok-answers-clause-text
returns-in-Ok-answers-clause-text g c = λ files next rows told holds.
    c.in-Ok-answers.ensures rows
    (searches_read files c.args.commit next rows holds c.in-Ok.opened
    (c.in-Ok.ensures.only files next holds.holds.entries holds.holds.segments told holds.holds.spelled))

pub returns-in-Ok-answers-clause-broken : goal.returns-in-Ok-answers-clause-broken
returns-in-Ok-answers-clause-broken g c = λ files damaged told broken.
    let opened = c.in-Ok.opened in
    spelled_whole (told_files (g.S.Store.disk c.args.store.now)) c.args.commit opened.next_id opened.entries opened.segments files damaged told c.in-Ok.ensures.found broken

pub returns-clause-whole : goal.returns-clause-whole
returns-clause-whole g c = λ files next rows told holds.
    c.in-Err.ensures.whole files next holds.entries holds.segments told holds.spelled

pub returns-clause-broken : goal.returns-clause-broken
returns-clause-broken g c = λ files damaged told broken.
    breaks (told_files (g.S.Store.disk c.args.store.now)) c.args.commit c.in-Err.fault files damaged
    (λ d e. c.in-Err.ensures.damaged d (ap (λ (f : OpenFault). Err f) e))
    (λ other e. c.in-Err.ensures.listed other (ap (λ (f : OpenFault). Err f) e)) told broken
