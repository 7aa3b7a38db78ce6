use Rattle.commit_pruning.proofs.Halting.{told_done_stops, told_pause_stops}
use Rattle.commit_pruning.proofs.pruning.carry_out.Goals as goal

pub returns-in-Ok-clause-stops : goal.returns-in-Ok-clause-stops
returns-in-Ok-clause-stops g c =
    told_done_stops c.args.plan.now.gone c.args.plan.now.rest c.as_slice-gone.result.now c.as_slice.result.now _ _ c.as_slice-gone.ensures c.as_slice.ensures c.in-Ok.ensures.disk

pub returns-in-Err-NoMemory-clause-stops : goal.returns-in-Err-NoMemory-clause-stops
returns-in-Err-NoMemory-clause-stops g c =
    told_pause_stops c.args.plan.now.gone c.args.plan.now.rest c.as_slice-gone.result.now c.as_slice.result.now _ _ c.as_slice-gone.ensures c.as_slice.ensures
    (rw c.in-Err-NoMemory.field-0-is at c.in-Err-NoMemory.ensures.disk)
