use Rattle.std.proofs.Common.{◌≤◌, List, length, subst, ◌∙◌, ap, arith}
use Rattle.std.specs.BTreeSet.{contains}
use Rattle.std.specs.Ordering.{nat_cmp}
use Rattle.std.proofs.lemmas.Result.{err_from_is_err_and}
use Rattle.ix_outside.specs.Disk.{told_files}
use Rattle.commit_point.specs.declared.heads.HeadSegment.{HeadSegment}
use Rattle.commit_point.proofs.Loading.{one_more_seen, breaks_seen, all_read}
use Rattle.commit_point.proofs.load.read_segments.Goals as goal

pub returns-in_err-segment-clause-damaged : goal.returns-in_err-segment-clause-damaged
returns-in_err-segment-clause-damaged g c before damaged was e =
    let p = err_from_is_err_and c.from_residual.result c.from_residual.ensures.1 in
    breaks_seen (told_files (g.S.Store.disk c.args.store.now)) (told_files (g.S.Store.disk c.loop-entry.store)) c.args.head.now before c.loop-entry.entry-index (contains nat_cmp c.loop-entry.earlier) c.loop-entry.segments.items
    c.as_slice-entries.result.now (record { id = 0; rows = 0; written = 0 }) damaged c.requires c.loop-entry.invariant.same c.as_slice-entries.ensures c.loop-entry-test.true (c.loop-entry.invariant.found before was)
    (c.in_err-segment.ensures.damaged damaged (let q = p.1 in let r = p.2 in cc))

pub returns-clause-found : goal.returns-clause-found
returns-clause-found g c before was =
    all_read (told_files (g.S.Store.disk c.args.store.now)) c.args.head.now before c.loop-entry.entry-index (contains nat_cmp c.loop-entry.earlier) c.loop-entry.segments.items
    (subst (λ (es : List HeadSegment). length es ≤ c.loop-entry.entry-index) c.as_slice-entries.ensures c.loop-entry-test.false) (c.loop-entry.invariant.found before was)

pub loop-entry-preserved : goal.loop-entry-preserved
loop-entry-preserved g c = record {
  same = (ap told_files c.in_ok-segment.ensures.reads) ∙ c.loop-entry.invariant.same;
  reads = c.in_ok-segment.ensures.reads ∙ c.loop-entry.invariant.reads;
  later = omega (arith, c.loop-entry.invariant.later, c.in_ok-segment.ensures.later);
  found = λ before was.
      one_more_seen (told_files (g.S.Store.disk c.args.store.now)) (told_files (g.S.Store.disk c.loop-entry.store)) c.args.head.now before c.loop-entry.entry-index (contains nat_cmp c.loop-entry.earlier) (contains nat_cmp c.take_in.new.earlier)
      c.loop-entry.segments.items c.take_in.new.segments.items c.as_slice-entries.result.now (record { id = 0; rows = 0; written = 0 }) c.in_ok-segment.segment c.requires c.loop-entry.invariant.same c.as_slice-entries.ensures c.loop-entry-test.true
      (c.loop-entry.invariant.found before was)
      c.in_ok-segment.ensures.found c.in_ok-take_in.ensures.numbers c.in_ok-take_in.ensures.segments;
}
