use Rattle.std.proofs.Common.{◌∙◌, ℕ, List, ◌++◌, get_or, Option, ap, subst, arith}
use Rattle.ix_outside.specs.Disk.{told_files}
use Rattle.ix_outside.specs.Files.{Files}
use Rattle.store_answers.specs.Listing.{IsBrokenCommit}
use Rattle.store_answers.proofs.Listed.{one_more, spelled_before}
use Rattle.store_answers.proofs.listing.lines_of.Goals as goal

pub loop-number-preserved : goal.loop-number-preserved
loop-number-preserved g c =
    let inv = c.loop-number.invariant in
    let numbers = c.args.numbers.now in
    let i = c.loop-number.number-index in
    record {
      text = λ files told.
          let done = inv.text files told in
          let one = c.in-Ok.ensures.text files (ap told_files inv.reads ∙ told) in
          one_more files numbers i done.0 one.0 c.loop-number.text.items c.in-Ok.line.items _ c.loop-number-test.true done.1 one.1 done.2 one.2
          (c.in_ok-extend_from_slice-in-Ok.ensures.items ∙ ap (λ (bs : List ℕ). c.loop-number.text.items ++ bs) c.as_slice.ensures.value);
      reads = c.line_of.ensures.reads ∙ inv.reads;
      later = omega (arith, inv.later, c.line_of.ensures.later);
    }

pub returns-in-Err-clause-damaged : goal.returns-in-Err-clause-damaged
returns-in-Err-clause-damaged g c = λ damaged is.
    let inv = c.loop-number.invariant in
    let numbers = c.args.numbers.now in
    let i = c.loop-number.number-index in
    record {
      at = i;
      within = c.loop-number-test.true;
      broken = subst (λ (o : Option Files). IsBrokenCommit o (get_or numbers i 0) damaged) (ap told_files inv.reads) (c.in-Err.ensures.damaged damaged cc);
      before = λ files told.
          let done = inv.text files told in
          spelled_before files numbers i done.0 (omega (arith, c.loop-number-test.true)) done.1;
    }
