use Rattle.std.proofs.Common.{◌≡◌, ◌∙◌, Some, ap, subst, sym}
use Rattle.ix_outside.specs.Disk.{told_files}
use Rattle.commit_point.specs.declared.heads.Head.{Head}
use Rattle.index_check.specs.Earlier.{IsLeastId}
use Rattle.index_check.specs.Known.{IsSoundHead}
use Rattle.index_check.proofs.Owners.{not_some}
use Rattle.index_check.proofs.WereRead.{some_at}
use Rattle.index_check.proofs.one_commit.check_commit.Goals as goal

pub returns-in-Some-clause-head : goal.returns-in-Some-clause-head
returns-in-Some-clause-head g c = λ files told.
    (some_at c.in_ok-head.field-0 c.in-Some.head (λ (h : Head). IsSoundHead files c.args.number h c.sound_commit.new.earlier) c.in-Some.is (c.in_ok-head.ensures.sound files told)).has

pub returns-in-Some-clause-sound : goal.returns-in-Some-clause-sound
returns-in-Some-clause-sound g c = λ files told.
    (some_at c.in_ok-head.field-0 c.in-Some.head (λ (h : Head). IsSoundHead files c.args.number h c.sound_commit.new.earlier) c.in-Some.is (c.in_ok-head.ensures.sound files told)).lawful

pub returns-in-Some-clause-earlier : goal.returns-in-Some-clause-earlier
returns-in-Some-clause-earlier g c = λ files told.
    (some_at c.in_ok-head.field-0 c.in-Some.head (λ (h : Head). IsSoundHead files c.args.number h c.sound_commit.new.earlier) c.in-Some.is (c.in_ok-head.ensures.sound files told)).before

pub check_whole-requires : goal.check_whole-requires
check_whole-requires g c = λ files told.
    let before : told_files (g.S.Store.disk c.args.store.now) ≡ Some files = ap told_files (sym c.sound_commit.ensures.reads) ∙ told in
    let none = not_some c.in_ok-head.field-0 c.in_default.not-Some in
    subst (IsLeastId files c.args.number) (sym (c.in_ok-head.ensures.least none)) (c.requires files before).ids
