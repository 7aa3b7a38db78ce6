use Rattle.index_run.proofs.Listed.{outside_listed}
use Rattle.index_run.proofs.answering.show.Goals as goal

pub returns-in-Err-clause-whole : goal.returns-in-Err-clause-whole
returns-in-Err-clause-whole g c = λ files heads told are.
    outside_listed c.in-Err.fault c.stop_by_list.result c.stop_by_list.ensures (c.in-Err.ensures.whole files heads told are)
