use Rattle.ix_outside.specs.Disk.{told_files}
use Rattle.store_answers.proofs.Asked.{found_asked, found_others, found_tells}
use Rattle.store_answers.proofs.finding.asked_commit.Goals as goal

pub returns-in-Ok-clause-asked : goal.returns-in-Ok-clause-asked
returns-in-Ok-clause-asked g c =
    found_asked (told_files (g.S.Store.disk c.args.store.now)) c.in-Ok.numbers c.as_slice.result.now c.args.named c.asked_in.result c.as_slice.ensures c.in-Ok.ensures.commits
    c.asked_in.ensures.among

pub returns-in-Ok-clause-no_such : goal.returns-in-Ok-clause-no_such
returns-in-Ok-clause-no_such g c =
    found_tells (told_files (g.S.Store.disk c.args.store.now)) c.in-Ok.numbers c.as_slice.result.now c.args.named c.asked_in.result c.as_slice.ensures c.in-Ok.ensures.commits
    c.asked_in.ensures.among c.asked_in.ensures.none

pub returns-in-Ok-clause-others : goal.returns-in-Ok-clause-others
returns-in-Ok-clause-others g c = found_others c.as_slice.result.now c.args.named c.asked_in.result c.asked_in.ensures.none
