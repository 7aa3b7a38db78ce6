use Rattle.std.proofs.Common.{Option, ap, subst, ◌∙◌, inr}
use Rattle.std.proofs.lemmas.Result.{err_from_is_err_and}
use Rattle.ix_outside.specs.Disk.{told_files}
use Rattle.ix_outside.specs.Files.{Files}
use Rattle.commit_point.specs.SegmentReads.{PostingsRead, LiveBroken}
use Rattle.commit_point.proofs.load.read_segment.Goals as goal

pub returns-in_err-live-clause-damaged : goal.returns-in_err-live-clause-damaged
returns-in_err-live-clause-damaged g c damaged e =
    let p = err_from_is_err_and c.from_residual-in_err-live.result c.from_residual-in_err-live.ensures.1 in
    let first = ap told_files c.in_ok-rows.ensures.reads in
    let second = ap told_files c.in_ok-postings.ensures.reads ∙ first in
    inr (
      c.in_ok-rows.rows,
      c.in_ok-rows.ensures.found,
      inr (
        c.in_ok-postings.postings,
        subst (λ (o : Option Files). PostingsRead o c.args.entry c.in_ok-postings.postings) first c.in_ok-postings.ensures.found,
        subst (λ (o : Option Files). LiveBroken o c.args.entry damaged) second (c.in_err-live.ensures.damaged damaged (let q = p.1 in let r = p.2 in cc)),
      ),
    )
