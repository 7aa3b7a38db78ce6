use Rattle.std.proofs.Common.{Err}
use Rattle.commit_pruning.specs.declared.planning.Plan.{Plan}
use Rattle.commit_pruning.proofs.Carried.{crash_by, crash_same, each_by, each_same, found_by, found_same, gone_by, kept_by, left_by, left_same, never_damaged, none_by, none_same, paused_by, paused_same, pruned_by}
use Rattle.commit_point.proofs.StepLaws.{goes_still}
use Rattle.commit_pruning.specs.Pruning.{Deletes}
use Rattle.commit_pruning.proofs.Halting.{told_deletes}
use Rattle.commit_pruning.proofs.Planned.{whole_or_outside}
use Rattle.commit_pruning.proofs.pruning.prune.Goals as goal

pub returns-in-Ok-clause-pruned : goal.returns-in-Ok-clause-pruned
returns-in-Ok-clause-pruned g c =
    pruned_by c.args.keep c.in-Ok.plan.gone c.in-Ok.plan.rest (g.S.Store.disk c.args.store.now) (g.S.Store.disk c.make_plan.new.store) (g.S.Store.disk c.carry_out.new.store) c.carry_out.result
    c.in-Ok.ensures.plan c.in-Ok.ensures.reads c.carry_out.ensures.count c.carry_out.ensures.done

pub returns-in-Ok-clause-left : goal.returns-in-Ok-clause-left
returns-in-Ok-clause-left g c =
    left_by c.args.keep c.in-Ok.plan.gone c.in-Ok.plan.rest (g.S.Store.disk c.args.store.now) (g.S.Store.disk c.make_plan.new.store) (g.S.Store.disk c.carry_out.new.store)
    c.in-Ok.ensures.plan (c.in-Ok.ensures.reads, c.carry_out.ensures.stops)

pub returns-in-Ok-clause-crash : goal.returns-in-Ok-clause-crash
returns-in-Ok-clause-crash g c =
    crash_by c.args.keep c.in-Ok.plan.gone c.in-Ok.plan.rest (g.S.Store.disk c.args.store.now) (g.S.Store.disk c.make_plan.new.store) (g.S.Store.disk c.carry_out.new.store)
    c.in-Ok.ensures.plan (c.in-Ok.ensures.reads, c.carry_out.ensures.stops)

pub returns-in-Ok-clause-kept : goal.returns-in-Ok-clause-kept
returns-in-Ok-clause-kept g c =
    kept_by c.args.keep c.in-Ok.plan.gone c.in-Ok.plan.rest (g.S.Store.disk c.args.store.now) (g.S.Store.disk c.make_plan.new.store) (g.S.Store.disk c.carry_out.new.store) c.carry_out.result
    c.in-Ok.ensures.plan c.in-Ok.ensures.reads c.carry_out.ensures.done

pub returns-in-Ok-clause-paused : goal.returns-in-Ok-clause-paused
returns-in-Ok-clause-paused g c = λ files now is end kept memory.
    paused_by c.args.keep c.in-Ok.plan.gone c.in-Ok.plan.rest (g.S.Store.disk c.args.store.now) (g.S.Store.disk c.make_plan.new.store) (g.S.Store.disk c.carry_out.new.store)
    c.in-Ok.ensures.plan (c.in-Ok.ensures.reads, c.carry_out.ensures.pauses memory) files now is end kept

pub returns-in-Ok-clause-damaged : goal.returns-in-Ok-clause-damaged
returns-in-Ok-clause-damaged g c = λ damaged is. never_damaged c.carry_out.result damaged c.carry_out.ensures.outside is

pub returns-in-Ok-clause-staying : goal.returns-in-Ok-clause-staying
returns-in-Ok-clause-staying g c = λ files damaged told is. never_damaged c.carry_out.result damaged c.carry_out.ensures.outside is

pub returns-in-Ok-clause-untouched : goal.returns-in-Ok-clause-untouched
returns-in-Ok-clause-untouched g c = λ damaged is. never_damaged c.carry_out.result damaged c.carry_out.ensures.outside is

pub returns-in-Ok-clause-whole : goal.returns-in-Ok-clause-whole
returns-in-Ok-clause-whole g c = λ files told whole. c.carry_out.ensures.outside

pub returns-in-Err-clause-left : goal.returns-in-Err-clause-left
returns-in-Err-clause-left g c = left_same c.args.keep (g.S.Store.disk c.args.store.now) (g.S.Store.disk c.make_plan.new.store) c.in-Err.ensures.reads

pub returns-in-Err-clause-crash : goal.returns-in-Err-clause-crash
returns-in-Err-clause-crash g c = crash_same c.args.keep (g.S.Store.disk c.args.store.now) (g.S.Store.disk c.make_plan.new.store) c.in-Err.ensures.reads

pub returns-in-Err-clause-paused : goal.returns-in-Err-clause-paused
returns-in-Err-clause-paused g c = λ files now is end kept memory.
    paused_same c.args.keep (g.S.Store.disk c.args.store.now) (g.S.Store.disk c.make_plan.new.store) c.in-Err.ensures.reads files now is end kept

pub returns-in-Err-clause-whole : goal.returns-in-Err-clause-whole
returns-in-Err-clause-whole g c = λ files told whole.
    whole_or_outside {T = Plan} c.args.keep files (Err c.in-Err.fault) (λ damaged is. c.in-Err.ensures.staying files damaged told cc) whole

pub returns-in-Ok-clause-only : goal.returns-in-Ok-clause-only
returns-in-Ok-clause-only g c =
    told_deletes c.in-Ok.plan.gone c.in-Ok.plan.rest (g.S.Store.disk c.args.store.now) (g.S.Store.disk c.make_plan.new.store) _ c.in-Ok.ensures.reads c.carry_out.ensures.stops

pub returns-in-Err-clause-only : goal.returns-in-Err-clause-only
returns-in-Err-clause-only g c = goes_still (λ step older. Deletes step) (g.S.Store.disk c.args.store.now) (g.S.Store.disk c.make_plan.new.store) c.in-Err.ensures.reads

pub returns-in-Ok-clause-found : goal.returns-in-Ok-clause-found
returns-in-Ok-clause-found g c =
    found_by c.args.keep c.in-Ok.plan.gone c.in-Ok.plan.rest (g.S.Store.disk c.args.store.now) (g.S.Store.disk c.make_plan.new.store) (g.S.Store.disk c.carry_out.new.store)
    c.in-Ok.ensures.plan (c.in-Ok.ensures.reads, c.carry_out.ensures.stops)

pub returns-in-Ok-clause-each : goal.returns-in-Ok-clause-each
returns-in-Ok-clause-each g c =
    each_by c.args.keep c.in-Ok.plan.gone c.in-Ok.plan.rest (g.S.Store.disk c.args.store.now) (g.S.Store.disk c.make_plan.new.store) (g.S.Store.disk c.carry_out.new.store)
    c.in-Ok.ensures.plan (c.in-Ok.ensures.reads, c.carry_out.ensures.stops)

pub returns-in-Ok-clause-gone : goal.returns-in-Ok-clause-gone
returns-in-Ok-clause-gone g c =
    gone_by c.args.keep c.in-Ok.plan.gone c.in-Ok.plan.rest (g.S.Store.disk c.args.store.now) (g.S.Store.disk c.make_plan.new.store) (g.S.Store.disk c.carry_out.new.store) c.carry_out.result
    c.in-Ok.ensures.plan c.in-Ok.ensures.reads c.carry_out.ensures.done

pub returns-in-Ok-clause-none : goal.returns-in-Ok-clause-none
returns-in-Ok-clause-none g c =
    none_by c.args.keep c.in-Ok.plan.gone c.in-Ok.plan.rest (g.S.Store.disk c.args.store.now) (g.S.Store.disk c.make_plan.new.store) (g.S.Store.disk c.carry_out.new.store)
    (c.in-Ok.ensures.reads, c.carry_out.ensures.stops)

pub returns-in-Err-clause-found : goal.returns-in-Err-clause-found
returns-in-Err-clause-found g c = found_same c.args.keep (g.S.Store.disk c.args.store.now) (g.S.Store.disk c.make_plan.new.store) c.in-Err.ensures.reads

pub returns-in-Err-clause-each : goal.returns-in-Err-clause-each
returns-in-Err-clause-each g c = each_same c.args.keep (g.S.Store.disk c.args.store.now) (g.S.Store.disk c.make_plan.new.store) c.in-Err.ensures.reads

pub returns-in-Err-clause-none : goal.returns-in-Err-clause-none
returns-in-Err-clause-none g c = none_same (g.S.Store.disk c.args.store.now) (g.S.Store.disk c.make_plan.new.store) c.in-Err.ensures.reads
