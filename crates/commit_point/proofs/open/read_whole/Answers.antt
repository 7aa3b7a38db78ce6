use Rattle.std.proofs.Common.{◌≡◌, List, Err, not, sym, ap, subst}
use Rattle.std.proofs.lemmas.Result.{err_from_is_err_and}
use Rattle.ix_base.specs.declared.damaged.Damaged.{Damaged}
use Rattle.ix_base.specs.declared.file_name.FileName.TheVariants.{Commit}
use Rattle.ix_outside.specs.Disk.{told_files}
use Rattle.segment_core.specs.LiveRows.{Lived}
use Rattle.commit_point.specs.Holds.{HasSegments}
use Rattle.commit_point.specs.Reading.{reading}
use Rattle.commit_point.proofs.Opening.{opens, head_breaks, segment_breaks, docs_break, counts_right, counts_wrong}
use Rattle.commit_point.proofs.open.read_whole.Goals as goal

pub returns-in_err-head-clause-damaged : goal.returns-in_err-head-clause-damaged
returns-in_err-head-clause-damaged g c damaged e =
    let p = err_from_is_err_and c.from_residual.result c.from_residual.ensures.1 in
    head_breaks (told_files (g.S.Store.disk c.args.store.now)) c.args.number damaged (c.in_err-head.ensures.damaged damaged (let q = p.1 in let r = p.2 in cc))

pub returns-in_err-segments-clause-damaged : goal.returns-in_err-segments-clause-damaged
returns-in_err-segments-clause-damaged g c damaged e =
    let p = err_from_is_err_and c.from_residual-in_err-segments.result c.from_residual-in_err-segments.ensures.1 in
    segment_breaks (told_files (g.S.Store.disk c.args.store.now)) (told_files (g.S.Store.disk c.read_head.new.store)) c.args.number c.in_ok-head.head damaged (ap told_files c.in_ok-head.ensures.reads)
    c.in_ok-head.ensures.found.0 c.in_ok-head.ensures.found.1 c.in_ok-head.ensures.found.2
    (λ before was. c.in_err-segments.ensures.damaged before damaged was (let q = p.1 in let r = p.2 in cc))

pub returns-then-not-have_rows-clause-damaged : goal.returns-then-not-have_rows-clause-damaged
returns-then-not-have_rows-clause-damaged g c damaged e =
    let at = docs_break (told_files (g.S.Store.disk c.args.store.now)) (told_files (g.S.Store.disk c.read_head.new.store)) c.args.number c.in_ok-head.head c.in_ok-segments.segments.items (ap told_files c.in_ok-head.ensures.reads)
    c.in_ok-head.ensures.found.0 c.in_ok-head.ensures.found.1 c.in_ok-head.ensures.found.2 c.in_ok-segments.ensures.found
    (counts_wrong c.in_ok-head.head c.in_ok-segments.segments.items c.as_slice.result.now c.have_rows.result c.as_slice.ensures.value c.have_rows.ensures (ap not c.if-not-have_rows.true)) in
    let place : Damaged = record { file = Commit c.args.number; at = 16 } in
    let same : place ≡ damaged = cc in
    (at.0, at.1, subst (λ (d : Damaged). reading at.0 c.args.number ≡ Err d) same at.2)

pub returns-clause-found : goal.returns-clause-found
returns-clause-found g c =
    let at = opens (told_files (g.S.Store.disk c.args.store.now)) (told_files (g.S.Store.disk c.read_head.new.store)) c.args.number c.in_ok-head.head c.in_ok-segments.segments.items (ap told_files c.in_ok-head.ensures.reads)
    c.in_ok-head.ensures.found.0 c.in_ok-head.ensures.found.1 c.in_ok-head.ensures.found.2 c.in_ok-segments.ensures.found
    (counts_right c.in_ok-head.head c.in_ok-segments.segments.items c.as_slice.result.now c.have_rows.result c.as_slice.ensures.value c.have_rows.ensures (ap not c.if-not-have_rows.false)) in
    (at.0, at.1, subst (λ (segments : List Lived). HasSegments at.0 c.args.number c.in_ok-head.head.next_id c.in_ok-head.head.segments segments) (sym c.from_vec.ensures) at.2)
