use Rattle.std.proofs.Common.{◌∙◌, ◌++◌, get_or, List, Option, ap, subst, arith}
use Rattle.std.proofs.lemmas.List.Elements.{Contains-get_or}
use Rattle.ix_outside.specs.Disk.{told_files}
use Rattle.ix_outside.specs.Files.{Files}
use Rattle.commit_point.specs.declared.heads.HeadSegment.{HeadSegment}
use Rattle.commit_pruning.specs.Pruning.{IsBrokenCommit}
use Rattle.commit_pruning.proofs.Planned.{one_more}
use Rattle.commit_pruning.proofs.planning.entries_of.Goals as goal

pub loop-number-preserved : goal.loop-number-preserved
loop-number-preserved g c =
    let inv = c.loop-number.invariant in
    record {
      entries = λ files told.
          one_more files c.args.numbers.now c.loop-number.number-index c.in-Ok.head c.loop-number.entries.items _ c.loop-number-test.true
          (inv.entries files told) (c.in-Ok.ensures.found files (ap told_files inv.reads ∙ told))
          (c.in_ok-extend_from_slice-in-Ok.ensures.items ∙ ap (λ (es : List HeadSegment). c.loop-number.entries.items ++ es) c.as_slice.ensures);
      reads = c.in-Ok.ensures.reads ∙ inv.reads;
      later = omega (arith, inv.later, c.in-Ok.ensures.later);
    }

pub returns-in-Err-clause-damaged : goal.returns-in-Err-clause-damaged
returns-in-Err-clause-damaged g c = λ damaged is.
    let numbers = c.args.numbers.now in
    let i = c.loop-number.number-index in (
      get_or numbers i 0,
      Contains-get_or numbers i 0 c.loop-number-test.true,
      subst (λ (o : Option Files). IsBrokenCommit o (get_or numbers i 0) damaged) (ap told_files c.loop-number.invariant.reads) (c.in-Err.ensures.damaged damaged cc),
    )
