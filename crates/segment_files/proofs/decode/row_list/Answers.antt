use Rattle.std.proofs.Common.{◌+◌, sym}
use Rattle.std.proofs.lemmas.Result.{err_from_is_err_and}
use Rattle.std.specs.BTreeSet.{contains}
use Rattle.std.specs.Ordering.{nat_cmp}
use Rattle.ix_base.specs.declared.document.Row.{Row}
use Rattle.ix_base.specs.Births.{first_birth}
use Rattle.segment_files.specs.Reading.{row_at}
use Rattle.ix_base.proofs.ReadLoops.{goes_on_from, ends_from, is_done, left_by-push}
use Rattle.segment_files.proofs.decode.row_list.Goals as goal

pub returns-in_err-row : goal.returns-in_err-row
returns-in_err-row c =
    let p = err_from_is_err_and c.from_residual.result c.from_residual.ensures.1 in
    rw (p.1, p.2) (ends_from (row_at c.args.format c.args.number (contains nat_cmp c.args.earlier.now)) (λ (r : Row). r.birth + 1) (first_birth 1) (c.loop.last + 1) c.in_err-row.field-0.0 c.loop.rows.items c.args.count c.loop.counter c.loop.rest.now _
    c.loop.invariant.last c.loop-test.true c.in_err-row.ensures c.loop.invariant.items)

pub loop-preserved : goal.loop-preserved
loop-preserved c = record {
  items = rw c.in_ok-push.ensures.items (goes_on_from (row_at c.args.format c.args.number (contains nat_cmp c.args.earlier.now)) (λ (r : Row). r.birth + 1) (first_birth 1) (c.loop.last + 1) c.loop.rows.items c.args.count c.loop.counter c.loop.rest.now c.in_ok-row.row c.in_ok-row.after.now _
      c.loop.invariant.last c.loop-test.true c.in_ok-row.ensures c.loop.invariant.items);
  last = rw c.in_ok-push.ensures.items (sym (left_by-push (λ (r : Row). r.birth + 1) (first_birth 1) c.loop.rows.items c.in_ok-row.row));
}

pub returns : goal.returns
returns c = is_done (row_at c.args.format c.args.number (contains nat_cmp c.args.earlier.now)) (λ (r : Row). r.birth + 1) (first_birth 1) c.loop.rows.items c.args.count c.loop.counter c.loop.rest.now _ c.loop-test.false c.loop.invariant.items
