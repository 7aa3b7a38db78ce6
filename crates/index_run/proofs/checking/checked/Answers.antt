use Rattle.index_run.proofs.Listed.{differs_or_outside}
use Rattle.index_run.proofs.checking.checked.Goals as goal

pub returns-clause-other : goal.returns-clause-other
returns-clause-other g c = λ files d told at.
    differs_or_outside c.in-Err.fault c.stop_by_check.result d c.stop_by_check.ensures (c.in-Err.ensures.other files d told at)
