use Rattle.std.proofs.Common.{Some, None}
use Rattle.std.proofs.lemmas.Result.{err_from_is_err_and}
use Rattle.ix_base.proofs.ReadLoops.{goes_on_seen, ends_seen, is_done}
use Rattle.live_files.specs.LiveReading.{value_at}
use Rattle.live_files.specs.LiveSpelling.{SetValue}
use Rattle.live_files.proofs.read_values.value_list.Goals as goal

pub returns-in_err-value : goal.returns-in_err-value
returns-in_err-value c =
    let p = err_from_is_err_and c.from_residual.result c.from_residual.ensures.1 in
    rw (p.1, p.2) (ends_seen (value_at c.args.row_count) (λ (x : SetValue). Some x) None c.in_err-value.field-0.0 c.deref.result.now c.loop.values.items c.args.count c.loop.counter c.loop.rest.now _
    c.deref.ensures.value c.loop-test.true c.in_err-value.ensures c.loop.invariant)

pub loop-preserved : goal.loop-preserved
loop-preserved c =
    rw c.in_ok-push.ensures.items (goes_on_seen (value_at c.args.row_count) (λ (x : SetValue). Some x) None c.deref.result.now c.loop.values.items c.args.count c.loop.counter c.loop.rest.now c.in_ok-value.value c.in_ok-value.after.now _
    c.deref.ensures.value c.loop-test.true c.in_ok-value.ensures c.loop.invariant)

pub returns : goal.returns
returns c = is_done (value_at c.args.row_count) (λ (x : SetValue). Some x) None c.loop.values.items c.args.count c.loop.counter c.loop.rest.now _ c.loop-test.false c.loop.invariant
