use Rattle.std.proofs.Common.{◌≡◌, ◌∙◌, Some, ap}
use Rattle.ix_outside.specs.Disk.{told_files}
use Rattle.index_check.proofs.Exact.{broken_told, other_told, tells, whole}
use Rattle.index_check.proofs.checking.check.Goals as goal

pub returns-in-Ok-clause-whole : goal.returns-in-Ok-clause-whole
returns-in-Ok-clause-whole g c = λ files told lawful.
    let next = told_files (g.S.Store.disk c.list_commits.new.store) in
    let now : next ≡ Some files = ap told_files c.in-Ok.ensures.reads ∙ told in
    whole files c.check_commits.result
    (tells next files c.check_commits.result now (c.check_commits.ensures.sound files now) c.check_commits.ensures.damaged (λ d e. c.check_commits.ensures.differs files d now e)) lawful

pub returns-in-Ok-clause-broken : goal.returns-in-Ok-clause-broken
returns-in-Ok-clause-broken g c = λ files damaged told at.
    let next = told_files (g.S.Store.disk c.list_commits.new.store) in
    let now : next ≡ Some files = ap told_files c.in-Ok.ensures.reads ∙ told in
    broken_told files c.check_commits.result damaged
    (tells next files c.check_commits.result now (c.check_commits.ensures.sound files now) c.check_commits.ensures.damaged (λ d e. c.check_commits.ensures.differs files d now e)) at

pub returns-in-Ok-clause-other : goal.returns-in-Ok-clause-other
returns-in-Ok-clause-other g c = λ files d told at.
    let next = told_files (g.S.Store.disk c.list_commits.new.store) in
    let now : next ≡ Some files = ap told_files c.in-Ok.ensures.reads ∙ told in
    other_told files c.check_commits.result d
    (tells next files c.check_commits.result now (c.check_commits.ensures.sound files now) c.check_commits.ensures.damaged (λ d e. c.check_commits.ensures.differs files d now e)) at
