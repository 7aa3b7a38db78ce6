use Rattle.std.proofs.Common.{◌≡◌, ◌+◌, ◌∙◌, ℕ, List, ap, subst}
use Rattle.ix_outside.specs.Disk.{told_files}
use Rattle.index_check.specs.Difference.{DiffersAt}
use Rattle.commit_point.specs.declared.heads.HeadSegment.{HeadSegment}
use Rattle.index_check.specs.Earlier.{IsLeastAbove}
use Rattle.index_check.specs.Known.{IsBefore, count_of}
use Rattle.index_check.specs.declared.known.Known.{Known}
use Rattle.index_check.specs.Sound.{IsLawfulCommit}
use Rattle.index_check.proofs.Found.{any_ok, differs_at, head_broken, head_read, is_other, is_same, lawful_commit, next_before, read_there}
use Rattle.index_check.proofs.Shared.{can_spell}
use Rattle.index_check.proofs.one_commit.check_whole.Goals as goal

pub difference_in-requires : goal.difference_in-requires
difference_in-requires g c =
    let found = c.in_ok-opened.ensures.found in
    can_spell found.0 c.args.number c.in_ok-opened.opened.entries c.in_ok-opened.opened.segments found.2.each

pub returns-in-Some-clause-differs : goal.returns-in-Some-clause-differs
returns-in-Some-clause-differs g c = λ files d told is.
    let opened = c.in_ok-opened.opened in
    let least = c.args.earlier.now.least_id in
    let has = read_there (told_files (g.S.Store.disk c.args.store.now)) files c.args.number opened told c.in_ok-opened.ensures.found in
    let other = is_other opened least c.in_ok-difference.field-0 c.in-Some.difference c.in-Some.is c.in_ok-difference.ensures in
    let same : c.in-Some.difference ≡ d = cc in
    subst (DiffersAt files c.args.number) same (differs_at files c.args.number opened least c.in-Some.difference c.in_ok-opened.ensures.number has (c.requires files told) other)

pub returns-clause-sound : goal.returns-clause-sound
returns-clause-sound g c = λ files told.
    let opened = c.in_ok-opened.opened in
    let least = c.args.earlier.now.least_id in
    let has = read_there (told_files (g.S.Store.disk c.args.store.now)) files c.args.number opened told c.in_ok-opened.ensures.found in
    any_ok c.head_of.result (IsLawfulCommit files c.args.number)
    (lawful_commit files c.args.number opened least has (c.requires files told) (is_same opened least c.in_ok-difference.field-0 c.in_default.not-Some c.in_ok-difference.ensures))

pub returns-clause-earlier : goal.returns-clause-earlier
returns-clause-earlier g c = λ files told.
    let opened = c.in_ok-opened.opened in
    let least = c.args.earlier.now.least_id in
    let new = c.add_ids.new.self in
    let has = read_there (told_files (g.S.Store.disk c.args.store.now)) files c.args.number opened told c.in_ok-opened.ensures.found in
    let rises = subst (λ (l : ℕ). IsLeastAbove l c.as_slice.result.now new.least_id) c.forget.ensures.least c.add_ids.ensures.least in
    let above = subst (λ (es : List HeadSegment). IsLeastAbove least es new.least_id) c.as_slice.ensures rises in
    any_ok c.head_of.result (IsBefore files (c.args.number + 1) new)
    (next_before files c.args.number opened least new has (c.requires files told) above
    (λ id. ap (λ (k : Known). count_of k id) c.add_ids.ensures.known ∙ c.forget.ensures.known id))

pub returns-clause-head : goal.returns-clause-head
returns-clause-head g c =
    head_read (told_files (g.S.Store.disk c.args.store.now)) (told_files (g.S.Store.disk c.read.new.store)) c.args.number c.head_of.result
    (ap told_files c.read.ensures.reads) c.head_of.ensures.found

pub returns-clause-damaged : goal.returns-clause-damaged
returns-clause-damaged g c d is =
    head_broken (told_files (g.S.Store.disk c.args.store.now)) (told_files (g.S.Store.disk c.read.new.store)) c.args.number d
    (ap told_files c.read.ensures.reads) (c.head_of.ensures.damaged d is)
