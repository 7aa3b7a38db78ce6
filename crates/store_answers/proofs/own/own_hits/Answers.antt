use Rattle.store_answers.proofs.own.own_hits.Goals as goal

pub returns-in-Ok-later_hits-clause-hits : goal.returns-in-Ok-later_hits-clause-hits
returns-in-Ok-later_hits-clause-hits g c = λ files next rows told holds.
    c.in-Ok-later_hits.ensures rows (c.in-Ok.ensures.rows files next rows told holds)
