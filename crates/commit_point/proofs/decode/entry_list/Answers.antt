use Rattle.std.proofs.Common.{◌+◌, sym}
use Rattle.std.proofs.lemmas.Result.{err_from_is_err_and}
use Rattle.ix_base.specs.declared.broken.Broken.TheVariants.{At}
use Rattle.commit_point.specs.declared.heads.HeadSegment.{HeadSegment}
use Rattle.commit_point.specs.Reading.{entry_at}
use Rattle.ix_base.proofs.ReadLoops.{goes_on_from, ends_from, is_done, left_by-push}
use Rattle.commit_point.proofs.decode.entry_list.Goals as goal

pub returns-in_err-segment : goal.returns-in_err-segment
returns-in_err-segment c =
    let p = err_from_is_err_and c.from_residual.result c.from_residual.ensures.1 in
    rw (p.1, p.2) (ends_from (entry_at c.args.number c.args.next_id) (λ (e : HeadSegment). e.id + 1) 1 (c.loop.last + 1) (At c.in_err-segment.field-0.0.left) c.loop.segments.items c.args.count c.loop.counter c.loop.rest.now _
    c.loop.invariant.last c.loop-test.true c.in_err-segment.ensures c.loop.invariant.items)

pub loop-preserved : goal.loop-preserved
loop-preserved c = record {
  items = rw c.in_ok-push.ensures.items (goes_on_from (entry_at c.args.number c.args.next_id) (λ (e : HeadSegment). e.id + 1) 1 (c.loop.last + 1) c.loop.segments.items c.args.count c.loop.counter c.loop.rest.now c.in_ok-segment.segment c.in_ok-segment.after.now _
      c.loop.invariant.last c.loop-test.true c.in_ok-segment.ensures c.loop.invariant.items);
  last = rw c.in_ok-push.ensures.items (sym (left_by-push (λ (e : HeadSegment). e.id + 1) 1 c.loop.segments.items c.in_ok-segment.segment));
}

pub returns : goal.returns
returns c = is_done (entry_at c.args.number c.args.next_id) (λ (e : HeadSegment). e.id + 1) 1 c.loop.segments.items c.args.count c.loop.counter c.loop.rest.now _ c.loop-test.false c.loop.invariant.items
