use Rattle.std.proofs.Common.{◌≡◌, ◌∙◌, inr, ℕ, Option, Err, ap, sym, subst}
use Rattle.std.specs.Prelude.{IfOk}
use Rattle.ix_outside.specs.Disk.{told_files}
use Rattle.ix_outside.specs.Files.{Files}
use Rattle.commit_point.specs.Holds.{Holds, HoldsInverted}
use Rattle.commit_point.specs.Reading.{reading}
use Rattle.commit_point.specs.declared.fault.OpenFault.TheVariants as opening
use Rattle.searcher.specs.Searching.{IsDamagedIn}
use Rattle.store_answers.specs.Answers.{answers_text}
use Rattle.store_answers.proofs.Asked.{asked_is, found_outside, found_whole, said_again, there_said}
use Rattle.store_answers.proofs.asking.ask.Goals as goal

-- ---- the commit is there

pub returns-in-Ok-clause-text : goal.returns-in-Ok-clause-text
returns-in-Ok-clause-text g c = λ files s next rows told asked holds.
    let before = told_files (g.S.Store.disk c.args.store.now) in
    let same : s ≡ c.in-Ok.commit = asked_is before c.args.named c.in-Ok.commit s files told c.in-Ok.ensures.asked asked in
    subst (λ (n : ℕ). IfOk c.answers_from.result (λ answered. answered.text.items ≡ answers_text n rows c.args.questions.now)) (sym same)
    (c.answers_from.ensures.text files next rows (ap told_files c.in-Ok.ensures.reads ∙ told) (subst (λ (n : ℕ). HoldsInverted files n next rows) same holds))

pub returns-in-Ok-clause-whole : goal.returns-in-Ok-clause-whole
returns-in-Ok-clause-whole g c = λ files s next rows told asked holds.
    let before = told_files (g.S.Store.disk c.args.store.now) in
    let same : s ≡ c.in-Ok.commit = asked_is before c.args.named c.in-Ok.commit s files told c.in-Ok.ensures.asked asked in
    c.answers_from.ensures.whole files next rows (ap told_files c.in-Ok.ensures.reads ∙ told) (subst (λ (n : ℕ). Holds files n next rows) same holds)

pub returns-in-Ok-clause-damaged : goal.returns-in-Ok-clause-damaged
returns-in-Ok-clause-damaged g c = λ damaged is. record {
  number = c.in-Ok.commit;
  asked = c.in-Ok.ensures.asked;
  broken = subst (λ (o : Option Files). IsDamagedIn o c.in-Ok.commit damaged) (ap told_files c.in-Ok.ensures.reads) (c.answers_from.ensures.damaged damaged is);
}

pub returns-in-Ok-clause-broken : goal.returns-in-Ok-clause-broken
returns-in-Ok-clause-broken g c = λ files s damaged told asked broken.
    let before = told_files (g.S.Store.disk c.args.store.now) in
    let same : s ≡ c.in-Ok.commit = asked_is before c.args.named c.in-Ok.commit s files told c.in-Ok.ensures.asked asked in
    c.answers_from.ensures.broken files damaged (ap told_files c.in-Ok.ensures.reads ∙ told) (subst (λ (n : ℕ). reading files n ≡ Err damaged) same broken)

pub returns-in-Ok-clause-no_such : goal.returns-in-Ok-clause-no_such
returns-in-Ok-clause-no_such g c =
    there_said (told_files (g.S.Store.disk c.args.store.now)) c.args.named c.in-Ok.commit c.answers_from.result c.in-Ok.ensures.asked c.answers_from.ensures.listed

-- ---- it isn't found

pub returns-in-Err-clause-whole : goal.returns-in-Err-clause-whole
returns-in-Err-clause-whole g c = λ files s next rows told asked holds.
    found_outside (told_files (g.S.Store.disk c.args.store.now)) c.args.named c.in-Err.fault files s told asked c.in-Err.ensures.no_such c.in-Err.ensures.others

pub returns-in-Err-clause-damaged : goal.returns-in-Err-clause-damaged
returns-in-Err-clause-damaged g c = λ damaged is.
    let same : c.in-Err.fault ≡ opening.Damaged damaged = cc in
    found_whole c.args.named c.in-Err.fault damaged c.in-Err.ensures.others same

pub returns-in-Err-clause-broken : goal.returns-in-Err-clause-broken
returns-in-Err-clause-broken g c = λ files s damaged told asked broken.
    inr (found_outside (told_files (g.S.Store.disk c.args.store.now)) c.args.named c.in-Err.fault files s told asked c.in-Err.ensures.no_such c.in-Err.ensures.others)

pub returns-in-Err-clause-no_such : goal.returns-in-Err-clause-no_such
returns-in-Err-clause-no_such g c =
    said_again (told_files (g.S.Store.disk c.args.store.now)) c.args.named c.in-Err.fault c.in-Err.ensures.no_such
