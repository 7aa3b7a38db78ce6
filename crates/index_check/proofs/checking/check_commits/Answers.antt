use Rattle.std.proofs.Common.{◌≡◌, ◌∙◌, Option, Some, get_or, refl, sym, ap, subst, arith}
use Rattle.ix_outside.specs.Disk.{told_files}
use Rattle.ix_outside.specs.Files.{Files}
use Rattle.index_check.specs.Sound.{IsDamagedAt}
use Rattle.index_check.proofs.Walk.{all_heads, all_sound, before_next, damaged_first, first_before, lawful_next, none_yet, one_more}
use Rattle.index_check.proofs.checking.check_commits.Goals as goal

pub check_commit-requires : goal.check_commit-requires
check_commit-requires g c = λ files told.
    let inv = c.loop-number.invariant in
    let before : told_files (g.S.Store.disk c.args.store.now) ≡ Some files = ap told_files (sym inv.reads) ∙ told in
    before_next files c.args.numbers.now c.loop-number.number-index c.loop-number.heads.items c.loop-number.earlier (c.requires.all files before) c.requires.rise c.loop-number-test.true (inv.found files before)

pub loop-number-init : goal.loop-number-init
loop-number-init g c = record {
  found = λ files told.
      none_yet files c.args.numbers.now c.new-heads.result.items c.new-earlier.result c.new-heads.ensures.items
      (first_before files c.new-earlier.result c.new-earlier.ensures.least c.new-earlier.ensures.known);
  reads = refl;
  later = omega arith;
}

pub loop-number-preserved : goal.loop-number-preserved
loop-number-preserved g c =
    let inv = c.loop-number.invariant in
    record {
      found = λ files told.
          let now : told_files (g.S.Store.disk c.loop-number.store) ≡ Some files = ap told_files inv.reads ∙ told in
          one_more files c.args.numbers.now c.loop-number.number-index c.loop-number.heads.items c.push.new.self.items c.in-Ok.head c.loop-number.earlier c.check_commit.new.earlier
          (c.requires.all files told) c.requires.rise c.loop-number-test.true (inv.found files told)
          (c.in-Ok.ensures.head files now) (c.in-Ok.ensures.sound files now) (c.in-Ok.ensures.earlier files now) c.in_ok-push-in-Ok.ensures.items;
      reads = c.check_commit.ensures.reads ∙ inv.reads;
      later = omega (arith, inv.later, c.check_commit.ensures.later);
    }

pub returns-in-Err-clause-damaged : goal.returns-in-Err-clause-damaged
returns-in-Err-clause-damaged g c = λ damaged is.
    let inv = c.loop-number.invariant in
    let numbers = c.args.numbers.now in
    let i = c.loop-number.number-index in
    let now = told_files (g.S.Store.disk c.loop-number.store) in
    let old = told_files (g.S.Store.disk c.args.store.now) in
    let same : now ≡ old = ap told_files inv.reads in
    subst (λ (o : Option Files). IsDamagedAt o damaged) same
    (damaged_first now numbers i damaged (λ files told. c.requires.all files (sym same ∙ told)) c.loop-number-test.true
    (λ files told. lawful_next files numbers i c.loop-number.heads.items c.loop-number.earlier (c.requires.all files (sym same ∙ told)) c.requires.rise c.loop-number-test.true (inv.found files (sym same ∙ told)))
    (c.in-Err.ensures.damaged damaged cc))

pub returns-in-Err-clause-differs : goal.returns-in-Err-clause-differs
returns-in-Err-clause-differs g c = λ files d told is.
    let inv = c.loop-number.invariant in
    let numbers = c.args.numbers.now in
    let i = c.loop-number.number-index in
    let now : told_files (g.S.Store.disk c.loop-number.store) ≡ Some files = ap told_files inv.reads ∙ told in
    record {
      number = get_or numbers i 0;
      before = lawful_next files numbers i c.loop-number.heads.items c.loop-number.earlier (c.requires.all files told) c.requires.rise c.loop-number-test.true (inv.found files told);
      first = c.in-Err.ensures.differs files d now cc;
    }

pub returns-clause-heads : goal.returns-clause-heads
returns-clause-heads g c = λ files told.
    all_heads files c.args.numbers.now c.loop-number.number-index c.loop-number.heads.items c.loop-number.earlier (c.requires.all files told) c.requires.rise c.loop-number-test.false
    (c.loop-number.invariant.found files told)

pub returns-clause-sound : goal.returns-clause-sound
returns-clause-sound g c = λ files told.
    all_sound files c.args.numbers.now c.loop-number.number-index c.loop-number.heads.items c.loop-number.earlier (c.requires.all files told) c.loop-number-test.false
    (c.loop-number.invariant.found files told)
