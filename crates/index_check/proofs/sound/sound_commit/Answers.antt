use Rattle.std.proofs.Common.{◌≡◌, ◌∙◌, ℕ, List, Ok, Some, ap, subst, sym}
use Rattle.ix_outside.specs.Disk.{told_files}
use Rattle.ix_outside.specs.Files.{Files, Was}
use Rattle.commit_point.specs.declared.heads.Head.{Head}
use Rattle.commit_point.specs.declared.heads.HeadSegment.{HeadSegment}
use Rattle.commit_point.specs.Holds.{HasHead}
use Rattle.index_check.specs.Earlier.{IsLeastAbove}
use Rattle.index_check.specs.Known.{AreSound, IsKnown}
use Rattle.index_check.specs.declared.known.Known.{Known}
use Rattle.index_check.proofs.Heads.{sound_head}
use Rattle.index_check.proofs.WereRead.{head_there, none_is, ok_at, read_is}
use Rattle.index_check.proofs.sound.sound_commit.Goals as goal

pub are_sound-requires-clause-known : goal.are_sound-requires-clause-known
are_sound-requires-clause-known g c = λ files told.
    let old = told_files (g.S.Store.disk c.args.store.now) in
    let before : old ≡ Some files = ap told_files (sym c.listed_head.ensures.reads) ∙ told in
    let head = c.in-Some.head in
    let read : c.listed_head.result ≡ Ok head = read_is c.listed_head.result c.in_ok-head.field-0 head c.in_ok-head.ensures.found c.in-Some.is in
    let has = head_there old files c.args.number head before
    (ok_at c.listed_head.result head (λ (x : Head). (seen : Files) × Was old seen × HasHead seen c.args.number x) read c.listed_head.ensures.found) in
    subst (λ (n : ℕ). IsKnown files n c.args.earlier.now.known) (sym has.number) (c.requires files before).segments

pub returns-clause-sound : goal.returns-clause-sound
returns-clause-sound g c = λ files told.
    let old = told_files (g.S.Store.disk c.args.store.now) in
    let head = c.in-Some.head in
    let least = c.args.earlier.now.least_id in
    let new = c.add_ids.new.self in
    let read : c.listed_head.result ≡ Ok head = read_is c.listed_head.result c.in_ok-head.field-0 head c.in_ok-head.ensures.found c.in-Some.is in
    let has = head_there old files c.args.number head told
    (ok_at c.listed_head.result head (λ (x : Head). (seen : Files) × Was old seen × HasHead seen c.args.number x) read c.listed_head.ensures.found) in
    let next = c.next_id_difference.ensures.lawful (none_is c.next_id_difference.result (sym c.if-is_some.ensures)) in
    let sound = c.in_ok-are_sound.ensures.sound files (ap told_files c.listed_head.ensures.reads ∙ told) c.if-not-branch.false in
    let own = subst (λ (n : ℕ). AreSound files n head.segments c.are_sound.new.known head.docs) has.number sound in
    let known = subst (λ (k : Known). AreSound files c.args.number head.segments k head.docs) (sym c.add_ids.ensures.known) own in
    let above = subst (λ (es : List HeadSegment). IsLeastAbove least es new.least_id) c.as_slice.ensures c.add_ids.ensures.least in
    sound_head files c.args.number head least new has known (c.requires files told).ids next.0 next.1 above
