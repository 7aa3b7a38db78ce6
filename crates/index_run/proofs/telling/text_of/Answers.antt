use Rattle.index_run.proofs.telling.text_of.Goals as goal

pub returns-in-Summary-clause-summary : goal.returns-in-Summary-clause-summary
returns-in-Summary-clause-summary g c = λ files next rows is told holds. c.summary.ensures.text files next rows told holds
